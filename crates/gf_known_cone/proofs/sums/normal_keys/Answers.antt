use Rattle.std.proofs.Common.{sym, subst}
use Rattle.gf_cone.specs.Small.{IsSmall}
use Rattle.gf_known_cone.proofs.sums.normal_keys.Goals as goal

pub normal_key-requires : goal.normal_key-requires
normal_key-requires c = subst IsSmall (sym c.index-normals-k.is) (c.requires c.loop-k.k c.index-normals-k.result c.loop-k-test.true)
