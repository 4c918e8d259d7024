-- Marked polynomials: a polynomial with one of its monomials chosen, and lists of them.
-- Laws: proofs/MarkingLaws.antt. Source: Fukuda, Jensen, Thomas, Computing Gröbner fans, section 2 (marked Gröbner bases).
use Rattle.std.specs.Prelude.{◌≡◌, ℕ, zero, suc, List, [], ◌∷◌, map, Contains, IsPermutation, IsSortedByKey}
use Rattle.std.specs.List.Sorted.{IsStableByKey}
use Rattle.gf_frac.specs.Fraction.{Fraction, reciprocal_ℚ, one_ℚ}
use Rattle.gf_exponents_theory.specs.Exponents.{Exponents}
use Rattle.gf_exponents_theory.specs.Orders.{lex}
use Rattle.gf_poly.specs.declared.error.PolyError.{PolyError}
use Rattle.gf_poly.specs.declared.products.Scaling.TheVariants.{Over}
use Rattle.gf_poly.specs.Polynomial.{Terms, IsDescending, HasVariables, KeepsVariables}
use Rattle.gf_poly.specs.Products.{IsScaled, ScalesFit, IsScaleCause}

-- a polynomial and its marked monomial
pub record MarkedPolynomial : Type 0 where
  pub poly : Terms
  pub head : Exponents

-- the polynomials, without their marks
abbrev pub polys : List MarkedPolynomial → List Terms
polys bs = map (λ (b : MarkedPolynomial). b.poly) bs

-- P holds of each element
abbrev pub Each : {A : Type 0} → (A → Type 0) → List A → Type 0
Each P [] = Unit {0}
Each P (x ∷ xs) = P x × Each P xs

-- ---- one of them

-- the monomial of the term at index i; past the end the monomial 1
abbrev pub head_of : Terms → ℕ → Exponents
head_of [] i = []
head_of (t ∷ f) zero = t.mono
head_of (t ∷ f) (suc i) = head_of f i

-- c is the coefficient of the marked term
abbrev pub HasMark : MarkedPolynomial → Fraction → Type 0
HasMark b c = Contains b.poly (record { coef = c; mono = b.head })

-- a descending list with a term at its marked monomial
pub record HasMarkedTerm (b : MarkedPolynomial) : Type 0 where
  pub descending : IsDescending b.poly
  pub mark : Fraction
  pub term : HasMark b mark

-- g is f divided by its marked coefficient
pub record IsMonicOf (f g : MarkedPolynomial) : Type 0 where
  pub mark : Fraction
  pub term : HasMark f mark
  pub head : g.head ≡ f.head
  pub quotients : IsScaled (reciprocal_ℚ mark) f.poly g.poly
  pub one : HasMark g one_ℚ
  pub variables : KeepsVariables f.poly g.poly
  pub fits : ScalesFit Over mark f.poly

-- a quotient of a coefficient by the marked one leaves the range, or there is no memory
pub record IsMonicCause (f : MarkedPolynomial) (e : PolyError) : Type 0 where
  pub mark : Fraction
  pub term : HasMark f mark
  pub cause : IsScaleCause Over mark f.poly e

-- ---- lists

-- marked polynomials and their number of variables
pub record MarkedPolynomials : Type 0 where
  pub variables : ℕ
  pub items : List MarkedPolynomial

-- each has n variables
abbrev pub HaveVariables : ℕ → List MarkedPolynomial → Type 0
HaveVariables n bs = Each (λ (b : MarkedPolynomial). HasVariables n b.poly) bs

-- t has the members of s, ascending by their marked monomials, members with the same one in their order
pub record IsArranged (s t : MarkedPolynomials) : Type 0 where
  pub variables : t.variables ≡ s.variables
  pub members : IsPermutation s.items t.items
  pub ascending : IsSortedByKey (λ (b : MarkedPolynomial). b.head) lex t.items
  pub stable : IsStableByKey (λ (b : MarkedPolynomial). b.head) lex s.items t.items
