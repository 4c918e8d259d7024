use Rattle.gf_vec.proofs.SumLaws.{Summed}
use Rattle.gf_vec.proofs.sum.add_onto.Given as goal

abbrev pub invariant-loop-i : goal.invariant-loop-i
invariant-loop-i l = Summed l.initial.xs l.ys l.xs l.i
