use Rattle.gf_vec.proofs.DotSteps.{Kept}
use Rattle.gf_vec.proofs.dot.dot_slices.Given as goal

abbrev pub invariant-loop-i : goal.invariant-loop-i
invariant-loop-i l = Kept l.xs l.ys l.i l.sum
