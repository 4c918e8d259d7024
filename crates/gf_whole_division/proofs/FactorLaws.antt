-- Whole numbers among fractions, and multiples of polynomials.
-- To cite: whole-+, whole-neg, whole_zero, nonzero_whole, nonzero_factor, multiple-same, multiple_refl, multiple_trans, multiple_back, times-coefficient,
-- multiple_of_times, none_there, irreducible-multiple.
use Rattle.std.specs.Prelude.{◌≡◌, ◌≢◌, ℕ, suc, ℤ, pos, neg_ℤ, ◌+ℤ◌, ◌*ℤ◌, if◌then◌else◌, [], ◌∷◌}
use Rattle.std.proofs.Common.{arith, refl, sym, ap, ◌∙◌}
use Rattle.std.proofs.lemmas.Int.{ints}
use Rattle.gf_int_theory.specs.Integers.{cancel_factor}
use Rattle.gf_frac.specs.Fraction.{Fraction, over-is, whole, zero_ℚ, one_ℚ, ◌+ℚ◌, ◌*ℚ◌, neg_ℚ, reciprocal_ℚ}
use Rattle.gf_frac.proofs.FractionLaws.{over-+, over-neg, num_by_zero, zero-+ℚ, *ℚ-zero}
use Rattle.gf_frac.proofs.FractionLaws.{one-*ℚ, *ℚ_assoc, zero-not-one, reciprocal_ℚ-*ℚ}
use Rattle.gf_exponents_theory.specs.Exponents.{Exponents}
use Rattle.gf_poly.specs.Polynomial.{Terms, coefficient, SamePolynomial, times}
use Rattle.gf_poly.specs.Products.{IsScaled}
use Rattle.gf_poly.specs.Marking.{MarkedPolynomial}
use Rattle.gf_poly.proofs.MarkingLaws.{nonzero_reciprocal}
use Rattle.gf_poly.proofs.PolynomialLaws.{coefficient-times}
use Rattle.gf_poly.proofs.ProductLaws.{nonzero_product}
use Rattle.gf_ideal_theory.specs.Reduction.{IsIrreducible}
use Rattle.gf_ideal_theory.proofs.Identities.{whole-*}
use Rattle.gf_whole_division.specs.Values.{HasNone, IsMultipleOf}

-- ---- whole numbers

pub whole-+ : (j k : ℤ) → whole (j +ℤ k) ≡ whole j +ℚ whole k
whole-+ j k = ap whole (plain j k) ∙ sym (over-+ j k 0 0)
  where
    plain : (j k : ℤ) → j +ℤ k ≡ j *ℤ pos (suc 0) +ℤ k *ℤ pos (suc 0)
    plain j k = omega (arith, ints)

pub whole-neg : (k : ℤ) → whole (neg_ℤ k) ≡ neg_ℚ (whole k)
whole-neg k = sym (over-neg k 0)

pub whole_zero : (k : ℤ) → whole k ≡ zero_ℚ → k ≡ pos 0
whole_zero k h =
    cancel_factor (whole k).den k (pos 0) (whole k).positive (sym (over-is k 0) ∙ ap (λ z. z *ℤ pos 1) (num_by_zero (whole k) h) ∙ nothing (whole k).den)
  where
    nothing : (d : ℕ) → pos 0 *ℤ pos 1 ≡ pos 0 *ℤ pos d
    nothing d = omega (arith, ints)

pub nonzero_whole : (k : ℤ) → k ≢ pos 0 → whole k ≢ zero_ℚ
nonzero_whole k n z = n (whole_zero k z)

-- a factor of a number that isn't zero isn't
pub nonzero_factor : (l g s : ℤ) → l ≢ pos 0 → l ≡ g *ℤ s → s ≢ pos 0
nonzero_factor l g s n e z = n (whole_zero l (ap whole e ∙ whole-* g s ∙ ap (λ x. whole g *ℚ whole x) z ∙ *ℚ-zero (whole g)))

-- ---- multiples

pub multiple_refl : (f h : Terms) → SamePolynomial h f → IsMultipleOf f h
multiple_refl f h s = record { factor = one_ℚ; nonzero = λ z. zero-not-one (sym z); scaled = λ e. s e ∙ sym (one-*ℚ (coefficient f e)) }

pub multiple-same : (f g h : Terms) → IsMultipleOf f g → SamePolynomial h g → IsMultipleOf f h
multiple-same f g h m s = record { factor = m.factor; nonzero = m.nonzero; scaled = λ e. s e ∙ m.scaled e }

pub multiple_trans : (f g h : Terms) → IsMultipleOf f g → IsMultipleOf g h → IsMultipleOf f h
multiple_trans f g h m k = record {
  factor = k.factor *ℚ m.factor;
  nonzero = nonzero_product k.factor m.factor k.nonzero m.nonzero;
  scaled = λ e. k.scaled e ∙ ap (λ z. k.factor *ℚ z) (m.scaled e) ∙ sym (*ℚ_assoc k.factor m.factor (coefficient f e));
}

-- f is a multiple of its multiple
pub multiple_back : (f h : Terms) → IsMultipleOf f h → IsMultipleOf h f
multiple_back f h m = record {
  factor = reciprocal_ℚ m.factor;
  nonzero = nonzero_reciprocal m.factor m.nonzero;
  scaled = λ e.
      sym (one-*ℚ (coefficient f e)) ∙ ap (λ z. z *ℚ coefficient f e) (sym (reciprocal_ℚ-*ℚ m.factor m.nonzero))
      ∙ *ℚ_assoc (reciprocal_ℚ m.factor) m.factor (coefficient f e) ∙ ap (λ z. reciprocal_ℚ m.factor *ℚ z) (sym (m.scaled e));
}

pub times-coefficient : (c : Fraction) (f : Terms) → IsScaled c f (times c [] f)
times-coefficient c f e = coefficient-times c [] f e

pub multiple_of_times : (c : Fraction) (f h : Terms) → c ≢ zero_ℚ → SamePolynomial h (times c [] f) → IsMultipleOf f h
multiple_of_times c f h n s = record { factor = c; nonzero = n; scaled = λ e. s e ∙ times-coefficient c f e }

-- the coefficient at a monomial that no term has
pub none_there : (x : Exponents) (f : Terms) → HasNone x f → coefficient f x ≡ zero_ℚ
none_there x [] h = refl
none_there x (t ∷ f) h = ap (λ b. (if b then t.coef else zero_ℚ) +ℚ coefficient f x) h.0 ∙ zero-+ℚ (coefficient f x) ∙ none_there x f h.1

-- what divides no monomial of a multiple divides none of the polynomial
pub irreducible-multiple : (by : MarkedPolynomial → Type 0) (f h : Terms) → IsMultipleOf f h → IsIrreducible by h → IsIrreducible by f
irreducible-multiple by f h m i x there = i x (λ z. nonzero_product m.factor (coefficient f x) m.nonzero there (sym (m.scaled x) ∙ z))
