use Rattle.gf_gordan.specs.Alternative.{AreRows}
use Rattle.gf_saturate.proofs.grades.differences.Given as goal

abbrev pub invariant-polynomials : goal.invariant-polynomials
invariant-polynomials l = AreRows l.n l.rows.items
