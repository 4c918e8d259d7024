-- Products of a polynomial with a term or a fraction, and where they leave their ranges.
-- Terms are worked out from the greatest down, the coefficient before the exponents. Laws: proofs/ProductLaws.antt.
use Rattle.std.specs.Prelude.{◌≡◌, ◌≢◌, [], Contains}
use Rattle.std.specs.declared.cmp.Ordering.TheVariants.{Greater}
use Rattle.gf_frac.specs.Fraction.{Fraction, ◌*ℚ◌, reciprocal_ℚ, zero_ℚ}
use Rattle.gf_frac.specs.Fits.{FitsMul, FitsDiv}
use Rattle.gf_frac.specs.declared.refusal.Overflow.{Overflow}
use Rattle.gf_frac.specs.declared.refusal.Op.TheVariants.{Mul, Div}
use Rattle.gf_exponents_theory.specs.Exponents.{Exponents}
use Rattle.gf_exponents_theory.specs.Orders.{deglex}
use Rattle.gf_poly.specs.declared.Term.{Term}
use Rattle.gf_poly.specs.declared.error.PolyError.{PolyError}
use Rattle.gf_poly.specs.Refusals.{ByKind}
use Rattle.gf_poly.specs.declared.monomial.ExponentOverflow.{ExponentOverflow}
use Rattle.gf_poly.specs.declared.products.Scaling.{Scaling}
use Rattle.gf_poly.specs.declared.products.Scaling.TheVariants.{Times, Over}
use Rattle.gf_poly.specs.Monomial.{ProductFits, IsFirstOverflow}
use Rattle.gf_poly.specs.Polynomial.{Terms, coefficient, times}

-- ---- with a term

-- h has the product of each term of f and c x^u; where c is zero it has no terms
pub record HasProducts (c : Fraction) (u : Exponents) (f h : Terms) : Type 0 where
  pub nonzero : c ≢ zero_ℚ → h ≡ times c u f
  pub zero : c ≡ zero_ℚ → h ≡ []

-- the product of c x^u and the term t stays in range
pub record TermFits (c : Fraction) (u : Exponents) (t : Term) : Type 0 where
  pub coefficient_fits : FitsMul c t.coef
  pub exponents_fit : ProductFits u t.mono

-- the product of c x^u with each term of f does
pub record ProductsFit (c : Fraction) (u : Exponents) (f : Terms) : Type 0 where
  pub at : (t : Term) → Contains f t → TermFits c u t

-- t is a term of f, and the products with those before it stay in range
pub record IsFirstTerm (c : Fraction) (u : Exponents) (f : Terms) (t : Term) : Type 0 where
  pub inside : Contains f t
  pub before : (s : Term) → Contains f s → deglex s.mono t.mono ≡ Greater → TermFits c u s

-- the product of c and the coefficient of a term leaves the range
pub record IsProductOverflow (c : Fraction) (u : Exponents) (f : Terms) (o : Overflow) : Type 0 where
  pub operation : o.op ≡ Mul
  pub left : o.left ≡ c
  pub term : Term
  pub first : IsFirstTerm c u f term
  pub right : o.right ≡ term.coef
  pub leaves : ¬ (FitsMul o.left o.right)

-- the sum of two exponents does, of a term whose coefficient fits
pub record IsProductExponent (c : Fraction) (u : Exponents) (f : Terms) (o : ExponentOverflow) : Type 0 where
  pub term : Term
  pub first : IsFirstTerm c u f term
  pub coefficient_fits : FitsMul c term.coef
  pub overflow : IsFirstOverflow u term.mono o

-- why a product with a term is refused
abbrev pub IsProductCause : Fraction → Exponents → Terms → PolyError → Type 0
IsProductCause c u f = ByKind (IsProductOverflow c u f) (IsProductExponent c u f)

-- ---- with a fraction

-- h is k times f
abbrev pub IsScaled : Fraction → Terms → Terms → Type 0
IsScaled k f h = (e : Exponents) → coefficient h e ≡ k *ℚ coefficient f e

-- the product of k and c, or the quotient of c by k, stays in range
abbrev pub ScaleFits : Scaling → Fraction → Fraction → Type 0
ScaleFits Times k c = FitsMul k c
ScaleFits Over k c = FitsDiv c k

-- that with each coefficient of f does
pub record ScalesFit (kind : Scaling) (k : Fraction) (f : Terms) : Type 0 where
  pub at : (t : Term) → Contains f t → ScaleFits kind k t.coef

-- o is this operation with its operands
abbrev pub HasOperands : Scaling → Fraction → Fraction → Overflow → Type 0
HasOperands Times k c o = o ≡ record { op = Mul; left = k; right = c }
HasOperands Over k c o = o ≡ record { op = Div; left = c; right = k }

-- o is the operation at the greatest term at which it leaves the range
pub record IsScaleOverflow (kind : Scaling) (k : Fraction) (f : Terms) (o : Overflow) : Type 0 where
  pub term : Term
  pub inside : Contains f term
  pub operands : HasOperands kind k term.coef o
  pub leaves : ¬ (ScaleFits kind k term.coef)
  pub before : (s : Term) → Contains f s → deglex s.mono term.mono ≡ Greater → ScaleFits kind k s.coef

-- why a product with a fraction, or a quotient by it, is refused
abbrev pub IsScaleCause : Scaling → Fraction → Terms → PolyError → Type 0
IsScaleCause kind k f = ByKind (IsScaleOverflow kind k f) (λ o. ⊥)

-- the factor of each coefficient
abbrev pub factor : Scaling → Fraction → Fraction
factor Times k = k
factor Over k = reciprocal_ℚ k

-- what may be multiplied or divided by
abbrev pub MayScale : Scaling → Fraction → Type 0
MayScale Times k = Unit {0}
MayScale Over k = k ≢ zero_ℚ
