-- Exponents of a program's polynomials are within the limit. Laws: proofs/SmallNormals.antt.
use Rattle.std.specs.Prelude.{List}
use Rattle.gf_poly.specs.declared.Term.{Term}
use Rattle.gf_poly.specs.Monomial.{IsMonomial}
use Rattle.gf_poly.specs.Polynomial.{Terms}
use Rattle.gf_poly.specs.Marking.{MarkedPolynomial, Each}

-- so it is in each term
abbrev pub AreMonomials : Terms → Type 0
AreMonomials f = Each (λ (t : Term). IsMonomial t.mono) f

-- in the mark and in each term
pub record HasMonomialsAlone (b : MarkedPolynomial) : Type 0 where
  pub head : IsMonomial b.head
  pub terms : AreMonomials b.poly

-- in each member
abbrev pub HaveMonomialsAlone : List MarkedPolynomial → Type 0
HaveMonomialsAlone bs = Each HasMonomialsAlone bs
