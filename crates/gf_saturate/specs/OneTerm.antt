-- Polynomials of one term as they are kept, and marks that are 1. Laws: proofs/OneTermLaws.antt.
use Rattle.std.specs.Prelude.{◌≡◌, true, List, [], Contains, length}
use Rattle.gf_exponents_theory.specs.Exponents.{same}
use Rattle.gf_poly.specs.Polynomial.{Terms}
use Rattle.gf_poly.specs.Marking.{MarkedPolynomial}

-- one of the polynomials has one term alone
abbrev pub HasOneTerm : List Terms → Type 0
HasOneTerm fs = (f : Terms) × Contains fs f × (length f ≡ 1)

-- the mark of one of the members is 1
abbrev pub HasUnitMark : List MarkedPolynomial → Type 0
HasUnitMark bs = (b : MarkedPolynomial) × Contains bs b × (same b.head [] ≡ true)
