-- Members of a list: monic ones, and such whose tails are reduced.
use Rattle.std.specs.Prelude.{◌≡◌, List, Contains, true}
use Rattle.gf_frac.specs.Fraction.{one_ℚ}
use Rattle.gf_exponents_theory.specs.Exponents.{Exponents, same}
use Rattle.gf_poly.specs.Polynomial.{coefficient}
use Rattle.gf_poly.specs.Marking.{MarkedPolynomial}
use Rattle.gf_ideal_theory.specs.Membership.{HasMonomial}
use Rattle.gf_ideal_theory.specs.Reduction.{IsDivisible}

-- each marked coefficient is 1
abbrev pub AreMonic : List MarkedPolynomial → Type 0
AreMonic bs = (b : MarkedPolynomial) → Contains bs b → coefficient b.poly b.head ≡ one_ℚ

-- no mark of bs divides an unmarked monomial of b
abbrev pub HasReducedTail : List MarkedPolynomial → MarkedPolynomial → Type 0
HasReducedTail bs b = (x : Exponents) → HasMonomial b.poly x → IsDivisible (Contains bs) x → same x b.head ≡ true
