use Rattle.std.proofs.Common.{subst, sym, arith}
use Rattle.gf_rays.proofs.prune.is_free.Goals as goal

pub returns : goal.returns
returns c = λ t i h. c.loop-i.invariant i (omega (arith, h, c.loop-i-test.false, c.in-Ok.ensures))
