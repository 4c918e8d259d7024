use Rattle.gf_order.specs.Weights.{AreBounded}
use Rattle.gf_saturate.proofs.graded.lowered.Given as goal

abbrev pub invariant-entries : goal.invariant-entries
invariant-entries l = AreBounded l.all.items
