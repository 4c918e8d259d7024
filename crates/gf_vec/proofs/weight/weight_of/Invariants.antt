use Rattle.gf_vec.proofs.WeightLaws.{Weighed}
use Rattle.gf_vec.proofs.weight.weight_of.Given as goal

abbrev pub invariant-loop-i : goal.invariant-loop-i
invariant-loop-i l = Weighed l.weight l.exponents l.i l.sum
