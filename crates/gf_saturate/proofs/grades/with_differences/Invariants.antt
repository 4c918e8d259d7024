use Rattle.gf_gordan.specs.Alternative.{AreRows}
use Rattle.gf_saturate.proofs.grades.with_differences.Given as goal

abbrev pub invariant-terms : goal.invariant-terms
invariant-terms l = AreRows l.n l.more.items
