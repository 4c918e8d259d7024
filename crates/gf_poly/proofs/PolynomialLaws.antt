-- Sums of polynomials and products by a term: what they do to coefficients.
-- To cite: coefficient-++, coefficient-times, coefficient-times-none, coefficient-same, coefficient-factor, times-times,
-- times-++, times-plain, SamePolynomial-times. The rest are steps.
use Rattle.std.specs.Prelude.{◌≡◌, Bool, true, false, if◌then◌else◌, [], ◌∷◌, ◌++◌}
use Rattle.std.proofs.Common.{refl, sym, ap, ◌∙◌, inl, inr}
use Rattle.gf_frac.specs.Fraction.{Fraction, ◌+ℚ◌, ◌*ℚ◌, zero_ℚ, one_ℚ}
use Rattle.gf_frac.proofs.FractionLaws.{+ℚ_assoc, zero-+ℚ, *ℚ-zero, *ℚ-+ℚ, *ℚ_assoc, *ℚ_comm, *ℚ-one}
use Rattle.gf_exponents_theory.specs.Exponents.{Exponents, same, plus, NoMultiple}
use Rattle.gf_exponents_theory.proofs.ExponentsLaws.{same-plus, same_along, multiple_or_not, plus_assoc}
use Rattle.gf_poly.specs.Polynomial.{Terms, coefficient, SamePolynomial, times, times_term}

-- ---- sums
pub coefficient-++ : (f g : Terms) (e : Exponents) → coefficient (f ++ g) e ≡ coefficient f e +ℚ coefficient g e
coefficient-++ [] g e = sym (zero-+ℚ (coefficient g e))
coefficient-++ (t ∷ f) g e = ap (λ z. (if same e t.mono then t.coef else zero_ℚ) +ℚ z) (coefficient-++ f g e) ∙ sym (+ℚ_assoc _ _ _)

-- ---- products by a term
chosen_times : (b : Bool) (c d : Fraction) → (if b then c *ℚ d else zero_ℚ) ≡ c *ℚ (if b then d else zero_ℚ)
chosen_times true c d = refl
chosen_times false c d = sym (*ℚ-zero c)

pub coefficient-times : (c : Fraction) (x : Exponents) (f : Terms) (e : Exponents) → coefficient (times c x f) (plus x e) ≡ c *ℚ coefficient f e
coefficient-times c x [] e = sym (*ℚ-zero c)
coefficient-times c x (t ∷ f) e =
    ap (λ b. (if b then c *ℚ t.coef else zero_ℚ) +ℚ coefficient (times c x f) (plus x e)) (same-plus x e t.mono)
    ∙ ap (λ z. (if same e t.mono then c *ℚ t.coef else zero_ℚ) +ℚ z) (coefficient-times c x f e)
    ∙ ap (λ z. z +ℚ c *ℚ coefficient f e) (chosen_times (same e t.mono) c t.coef)
    ∙ sym (*ℚ-+ℚ c _ _)

pub coefficient-times-none : (c : Fraction) (x : Exponents) (f : Terms) (e : Exponents) → NoMultiple x e → coefficient (times c x f) e ≡ zero_ℚ
coefficient-times-none c x [] e h = refl
coefficient-times-none c x (t ∷ f) e h =
    ap (λ b. (if b then c *ℚ t.coef else zero_ℚ) +ℚ coefficient (times c x f) e) (h t.mono) ∙ zero-+ℚ _ ∙ coefficient-times-none c x f e h

-- ---- exponents that are the same
pub coefficient-same : (f : Terms) (d e : Exponents) → same d e ≡ true → coefficient f d ≡ coefficient f e
coefficient-same [] d e h = refl
coefficient-same (t ∷ f) d e h =
    ap (λ b. (if b then t.coef else zero_ℚ) +ℚ coefficient f d) (same_along d e t.mono h)
    ∙ ap (λ z. (if same e t.mono then t.coef else zero_ℚ) +ℚ z) (coefficient-same f d e h)

-- equal polynomials have equal products
pub SamePolynomial-times : (c : Fraction) (x : Exponents) (f g : Terms) → SamePolynomial f g → SamePolynomial (times c x f) (times c x g)
SamePolynomial-times c x f g h e = elim (multiple_or_not x e) [
  | inl m ↦ coefficient-same (times c x f) e (plus x m.0) m.1 ∙ coefficient-times c x f m.0 ∙ ap (λ z. c *ℚ z) (h m.0) ∙ sym (coefficient-times c x g m.0) ∙
      sym (coefficient-same (times c x g) e (plus x m.0) m.1)
  | inr n ↦ coefficient-times-none c x f e n ∙ sym (coefficient-times-none c x g e n)
]

-- ---- products of products

chosen_twice : (b : Bool) (c d r : Fraction) → (if b then (c *ℚ d) *ℚ r else zero_ℚ) ≡ c *ℚ (if b then d *ℚ r else zero_ℚ)
chosen_twice true c d r = *ℚ_assoc c d r
chosen_twice false c d r = sym (*ℚ-zero c)

pub coefficient-times_factor : (c d : Fraction) (x : Exponents) (f : Terms) (e : Exponents) →
    coefficient (times (c *ℚ d) x f) e ≡ c *ℚ coefficient (times d x f) e
coefficient-times_factor c d x [] e = sym (*ℚ-zero c)
coefficient-times_factor c d x (t ∷ f) e =
    ap (λ z. z +ℚ coefficient (times (c *ℚ d) x f) e) (chosen_twice (same e (plus x t.mono)) c d t.coef)
    ∙ ap (λ z. c *ℚ (if same e (plus x t.mono) then d *ℚ t.coef else zero_ℚ) +ℚ z) (coefficient-times_factor c d x f e)
    ∙ sym (*ℚ-+ℚ c _ _)

pub times-times : (c d : Fraction) (x y : Exponents) (f : Terms) → times (c *ℚ d) (plus x y) f ≡ times c x (times d y f)
times-times c d x y [] = refl
times-times c d x y (t ∷ f) =
    ap (λ z. record { coef = z; mono = plus (plus x y) t.mono } ∷ times (c *ℚ d) (plus x y) f) (*ℚ_assoc c d t.coef)
    ∙ ap (λ z. record { coef = c *ℚ (d *ℚ t.coef); mono = z } ∷ times (c *ℚ d) (plus x y) f) (plus_assoc x y t.mono)
    ∙ ap (λ z. times_term c x (times_term d y t) ∷ z) (times-times c d x y f)

pub times-++ : (c : Fraction) (x : Exponents) (f g : Terms) → times c x (f ++ g) ≡ times c x f ++ times c x g
times-++ c x [] g = refl
times-++ c x (t ∷ f) g = ap (λ z. times_term c x t ∷ z) (times-++ c x f g)

-- a factor comes out
pub coefficient-factor : (c : Fraction) (x : Exponents) (f : Terms) (e : Exponents) → coefficient (times c x f) e ≡ c *ℚ coefficient (times one_ℚ x f) e
coefficient-factor c x f e = ap (λ z. coefficient (times z x f) e) (sym (*ℚ-one c)) ∙ coefficient-times_factor c one_ℚ x f e

pub times-plain : (f : Terms) → times one_ℚ [] f ≡ f
times-plain [] = refl
times-plain (t ∷ f) = ap (λ c. record { coef = c; mono = t.mono } ∷ times one_ℚ [] f) (one t.coef) ∙ ap (λ z. t ∷ z) (times-plain f)
  where
    one : (c : Fraction) → one_ℚ *ℚ c ≡ c
    one c = *ℚ_comm one_ℚ c ∙ *ℚ-one c
