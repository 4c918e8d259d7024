-- The greatest term by a weight, ties by lex.
-- Laws: proofs/MarksByWeightLaws.antt.
use Rattle.std.specs.Prelude.{◌≡◌, ◌⊎◌, List, ℤ, ◌<ℤ◌, length, Contains}
use Rattle.gf_exponents_theory.specs.Exponents.{Exponents, whole_weight}
use Rattle.gf_exponents_theory.specs.Orders.{IsLexBelow}
use Rattle.gf_poly.specs.declared.Term.{Term}
use Rattle.gf_poly.specs.Polynomial.{Terms}
use Rattle.gf_poly.specs.Marking.{MarkedPolynomial, MarkedPolynomials, HasMarkedTerm, Each, polys}

-- x is below y by the weight w: it weighs less, or they have the same weight and x is below y by lex
abbrev pub IsBelowBy : List ℤ → Exponents → Exponents → Type 0
IsBelowBy w x y = (whole_weight w x <ℤ whole_weight w y) ⊎ ((whole_weight w x ≡ whole_weight w y) × IsLexBelow x y)

-- the marked term of b is its greatest term by the weight w, ties broken by lex
pub record IsMarkedByWeight (w : List ℤ) (b : MarkedPolynomial) : Type 0 where
  pub marked : HasMarkedTerm b
  pub others : (t : Term) → Contains b.poly t → (t.mono ≡ b.head) ⊎ IsBelowBy w t.mono b.head

-- t has the polynomials of the set in their order, each marked at its greatest term by the weight w
pub record AreMarkedByWeight (w : List ℤ) (set : List Terms) (t : MarkedPolynomials) : Type 0 where
  pub variables : t.variables ≡ length w
  pub polynomials : polys t.items ≡ set
  pub marks : Each (IsMarkedByWeight w) t.items
