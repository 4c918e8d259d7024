use Rattle.gf_order.proofs.SumLaws.{Added}
use Rattle.gf_order.proofs.weights.difference.Given as goal

abbrev pub invariant-loop-i : goal.invariant-loop-i
invariant-loop-i l = Added l.weight l.x l.y l.i l.sum
