-- Members of the basis of the parts, as they are lifted. Laws: proofs/CrossingMath.antt, proofs/LiftSteps.antt.
use Rattle.std.specs.Prelude.{◌≡◌, List, Contains}
use Rattle.gf_frac.specs.Fraction.{zero_ℚ, one_ℚ}
use Rattle.gf_poly.specs.Polynomial.{Terms, coefficient}
use Rattle.gf_poly.specs.Marking.{MarkedPolynomial}
use Rattle.gf_ideal_theory.specs.Reduction.{Reached, IsIrreducible}

-- no remainder of h has a term at its mark, where the coefficient of h is 1
pub record IsLiftable (bs : List MarkedPolynomial) (h : MarkedPolynomial) : Type 0 where
  pub monic : coefficient h.poly h.head ≡ one_ℚ
  pub none : (r : Terms) → Reached (Contains bs) h.poly r → IsIrreducible (Contains bs) r → coefficient r h.head ≡ zero_ℚ

-- so it is with each
abbrev pub AreLiftable : List MarkedPolynomial → List MarkedPolynomial → Type 0
AreLiftable bs hs = (h : MarkedPolynomial) → Contains hs h → IsLiftable bs h
