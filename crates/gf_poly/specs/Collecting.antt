-- Sums of like terms from the left, and the first such sum that leaves the range.
-- Terms are like where they have the same exponent list. Laws: proofs/CollectLaws.antt.
use Rattle.std.specs.Prelude.{◌≡◌, ◌<◌, [], ◌∷◌, ◌++◌, length, cond, false}
use Rattle.std.specs.Ordering.{is_eq, is_lt}
use Rattle.std.specs.declared.cmp.Ordering.TheVariants.{Greater}
use Rattle.gf_frac.specs.Fraction.{Fraction, ◌+ℚ◌, zero_ℚ}
use Rattle.gf_frac.specs.Fits.{FitsAdd}
use Rattle.gf_frac.specs.declared.refusal.Overflow.{Overflow}
use Rattle.gf_frac.specs.declared.refusal.Op.TheVariants.{Add}
use Rattle.gf_exponents_theory.specs.Exponents.{Exponents}
use Rattle.gf_exponents_theory.specs.Orders.{deglex}
use Rattle.gf_poly.specs.declared.Term.{Term}
use Rattle.gf_poly.specs.declared.error.PolyError.{PolyError}
use Rattle.gf_poly.specs.Refusals.{ByKind}
use Rattle.gf_poly.specs.Polynomial.{Terms, SamePolynomial, KeepsVariables}

-- the terms of f with the monomial x, in their order
abbrev pub like : Exponents → Terms → Terms
like x [] = []
like x (t ∷ f) = cond (is_eq (deglex x t.mono)) (t ∷ like x f) (like x f)

-- the sum of the coefficients
abbrev pub sum_of_coefficients : Terms → Fraction
sum_of_coefficients [] = zero_ℚ
sum_of_coefficients (t ∷ f) = t.coef +ℚ sum_of_coefficients f

-- each sum from c on stays in range
abbrev pub SumsFitFrom : Fraction → Terms → Type 0
SumsFitFrom c [] = Unit {0}
SumsFitFrom c (t ∷ f) = FitsAdd c t.coef × SumsFitFrom (c +ℚ t.coef) f

-- each sum of the coefficients from the left does
abbrev pub SumsFit : Terms → Type 0
SumsFit [] = Unit {0}
SumsFit (t ∷ f) = SumsFitFrom t.coef f

-- those of like terms of f do
pub record LikeSumsFit (f : Terms) : Type 0 where
  pub at : (x : Exponents) → SumsFit (like x f)

-- o is the first sum that leaves the range, at the greatest monomial with such a sum
pub record IsLikeSumOverflow (f : Terms) (o : Overflow) : Type 0 where
  pub operation : o.op ≡ Add
  pub at : Exponents
  pub earlier : Terms
  pub last : Term
  pub later : Terms
  pub some : 0 < length earlier
  pub split : like at f ≡ earlier ++ last ∷ later
  pub left : o.left ≡ sum_of_coefficients earlier
  pub right : o.right ≡ last.coef
  pub leaves : ¬ (FitsAdd o.left o.right)
  pub before : SumsFit earlier
  pub above : (x : Exponents) → deglex x at ≡ Greater → SumsFit (like x f)

-- why a list of terms is refused
abbrev pub IsLikeSumCause : Terms → PolyError → Type 0
IsLikeSumCause f = ByKind (IsLikeSumOverflow f) (λ o. ⊥)

-- ---- lists in order

-- no monomial of f is greater than x
abbrev pub IsNotBelow : Exponents → Terms → Type 0
IsNotBelow x [] = Unit {0}
IsNotBelow x (t ∷ f) = (is_lt (deglex x t.mono) ≡ false) × IsNotBelow x f

-- no monomial is greater than one before it
abbrev pub IsOrdered : Terms → Type 0
IsOrdered [] = Unit {0}
IsOrdered (t ∷ f) = IsNotBelow t.mono f × IsOrdered f

-- g has the terms of f, like ones in the same order
pub record HasLikeTerms (f g : Terms) : Type 0 where
  pub same : SamePolynomial g f
  pub like_terms : (x : Exponents) → like x g ≡ like x f
  pub variables : KeepsVariables f g
