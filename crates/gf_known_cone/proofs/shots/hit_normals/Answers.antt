use Rattle.std.proofs.Common.{sym, subst}
use Rattle.gf_cone.specs.Small.{IsSmall}
use Rattle.gf_known_cone.proofs.shots.hit_normals.Goals as goal

pub narrow_on-requires-clause-small : goal.narrow_on-requires-clause-small
narrow_on-requires-clause-small c = subst IsSmall (sym c.index-normals-k.is) (c.requires.small c.loop-k.k c.index-normals-k.result c.loop-k-test.true)
