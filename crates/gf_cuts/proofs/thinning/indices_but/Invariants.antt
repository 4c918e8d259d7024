use Rattle.gf_cuts.specs.Heights.{AreIndicesBut}
use Rattle.gf_cuts.proofs.thinning.indices_but.Given as goal

abbrev pub invariant-loop-k : goal.invariant-loop-k
invariant-loop-k l = AreIndicesBut l.k l.but l.out.items
