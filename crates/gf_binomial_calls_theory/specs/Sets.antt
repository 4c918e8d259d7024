-- Marked sets of pure difference binomials, as they are read.
use Rattle.std.specs.Prelude.{Contains}
use Rattle.gf_poly.specs.Marking.{MarkedPolynomial, MarkedPolynomials, HaveVariables, HasMarkedTerm}
use Rattle.gf_binomials_theory.specs.Binomials.{IsBinomial}

-- the members are pure difference binomials in the variables of the set, each with a marked term of either sign
pub record IsBinomialSet (s : MarkedPolynomials) : Type 0 where
  pub variables : HaveVariables s.variables s.items
  pub marked : (b : MarkedPolynomial) → Contains s.items b → HasMarkedTerm b
  pub binomials : (b : MarkedPolynomial) → Contains s.items b → IsBinomial b.poly
