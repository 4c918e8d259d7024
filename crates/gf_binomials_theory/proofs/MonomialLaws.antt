-- Monomials that may be missing, and differences of two: coefficients, multiples.
-- To cite: IsTheMonomial, monomial_or_not, indicator-small, binomial_of-small, shifted, at_shifted, at_shifted-none, at_like, multiple_of_binomial,
-- binomial_of-equal, first_alone, second_alone.
use Rattle.std.proofs.Common.{◌≡◌, ◌≢◌, ◌⊎◌, if◌then◌else◌, Bool, true, false, Option, Some, None, arith, refl, ap, sym, ◌∙◌, subst, inl, inr}
use Rattle.gf_int_theory.specs.Integers.{diff-eq, naturals}
use Rattle.gf_frac.specs.Fraction.{Fraction, over-eq, ◌+ℚ◌, ◌*ℚ◌, neg_ℚ, zero_ℚ, one_ℚ}
use Rattle.gf_frac.proofs.FractionLaws.{overs, each_q, dens, +ℚ-zero, zero-+ℚ, +ℚ-neg_ℚ, *ℚ-zero}
use Rattle.gf_exponents_theory.specs.Exponents.{Exponents, same, plus, NoMultiple}
use Rattle.gf_exponents_theory.proofs.ExponentsLaws.{same-sym, same_along, same-plus, multiple_or_not}
use Rattle.gf_poly.specs.Polynomial.{Terms, coefficient, SamePolynomial, times}
use Rattle.gf_poly.proofs.PolynomialLaws.{coefficient-same, coefficient-times, coefficient-times-none}
use Rattle.gf_binomials_theory.specs.Binomials.{indicator, IsBinomialOf}
use Rattle.gf_binomials_theory.proofs.WholeLaws.{IsSmallWhole, small-up, small-zero, small-one, small-neg, small-+}

-- ---- one of them

-- the same monomial has the same coefficients
pub at_like : (x y e : Exponents) → same x y ≡ true → indicator (Some x) e ≡ indicator (Some y) e
at_like x y e h = ap (λ b. if b then one_ℚ else zero_ℚ) (same-sym e x ∙ same_along x y e h ∙ same-sym y e)

-- s is the monomial x
pub record IsTheMonomial (s : Option Exponents) (x : Exponents) : Type 0 where
  pub one : indicator s x ≡ one_ℚ
  pub like : (e : Exponents) → indicator s e ≡ indicator (Some x) e

-- the coefficient is 0, or s is that monomial
pub monomial_or_not : (s : Option Exponents) (x : Exponents) → (indicator s x ≡ zero_ℚ) ⊎ IsTheMonomial s x
monomial_or_not None x = inl refl
monomial_or_not (Some y) x = at (same x y) refl
  where
    at : (b : Bool) → same x y ≡ b → (indicator (Some y) x ≡ zero_ℚ) ⊎ IsTheMonomial (Some y) x
    at true h = inr (record { one = ap (λ b. if b then one_ℚ else zero_ℚ) h; like = λ e. sym (at_like x y e h) })
    at false h = inl (ap (λ b. if b then one_ℚ else zero_ℚ) h)

pub indicator-small : (s : Option Exponents) (e : Exponents) → IsSmallWhole 1 (indicator s e)
indicator-small None e = small-up 0 1 zero_ℚ (omega arith) small-zero
indicator-small (Some x) e = at (same e x)
  where
    at : (b : Bool) → IsSmallWhole 1 (if b then one_ℚ else zero_ℚ)
    at true = small-one
    at false = small-up 0 1 zero_ℚ (omega arith) small-zero

-- ---- a difference

pub binomial_of-small : (p q : Option Exponents) (f : Terms) (e : Exponents) → IsBinomialOf p q f → IsSmallWhole 2 (coefficient f e)
binomial_of-small p q f e h = subst (IsSmallWhole 2) (sym (h.equation e)) (small-+ 1 1 (indicator p e) (neg_ℚ (indicator q e)) (indicator-small p e)
    (small-neg 1 (indicator q e) (indicator-small q e)))

pub binomial_of-equal : (p q : Option Exponents) (f g : Terms) → SamePolynomial f g → IsBinomialOf p q f → IsBinomialOf p q g
binomial_of-equal p q f g e h = record { equation = λ x. sym (e x) ∙ h.equation x }

pub neg-zero : neg_ℚ zero_ℚ ≡ zero_ℚ
neg-zero = sym (zero-+ℚ (neg_ℚ zero_ℚ)) ∙ +ℚ-neg_ℚ zero_ℚ

-- its coefficient where the first is that monomial, and the second isn't
pub first_alone : (p q : Option Exponents) (f : Terms) (x : Exponents) → IsBinomialOf p q f → indicator p x ≡ one_ℚ → indicator q x ≡ zero_ℚ →
    coefficient f x ≡ one_ℚ
first_alone p q f x h a b = h.equation x ∙ ap (λ z. z +ℚ neg_ℚ (indicator q x)) a ∙ ap (λ z. one_ℚ +ℚ neg_ℚ z) b ∙ ap (λ z. one_ℚ +ℚ z) neg-zero ∙ +ℚ-zero one_ℚ

-- or the other way round
pub second_alone : (p q : Option Exponents) (f : Terms) (x : Exponents) → IsBinomialOf p q f → indicator p x ≡ zero_ℚ → indicator q x ≡ one_ℚ →
    coefficient f x ≡ neg_ℚ one_ℚ
second_alone p q f x h a b = h.equation x ∙ ap (λ z. z +ℚ neg_ℚ (indicator q x)) a ∙ ap (λ z. zero_ℚ +ℚ neg_ℚ z) b ∙ zero-+ℚ _

-- both or none: nothing is there
pub both_there : (p q : Option Exponents) (f : Terms) (x : Exponents) → IsBinomialOf p q f → indicator p x ≡ indicator q x → coefficient f x ≡ zero_ℚ
both_there p q f x h a = h.equation x ∙ ap (λ z. z +ℚ neg_ℚ (indicator q x)) a ∙ +ℚ-neg_ℚ _

-- where there is something, it is one of the two, and the other isn't it
pub record IsFirst (p q : Option Exponents) (x : Exponents) : Type 0 where
  pub there : IsTheMonomial p x
  pub other : indicator q x ≡ zero_ℚ

pub one_of_two : (p q : Option Exponents) (f : Terms) (x : Exponents) → IsBinomialOf p q f → coefficient f x ≢ zero_ℚ → IsFirst p q x ⊎ IsFirst q p x
one_of_two p q f x h n = at (monomial_or_not p x) (monomial_or_not q x)
  where
    at : (indicator p x ≡ zero_ℚ) ⊎ IsTheMonomial p x → (indicator q x ≡ zero_ℚ) ⊎ IsTheMonomial q x → IsFirst p q x ⊎ IsFirst q p x
    at (inl a) (inl b) = absurd (n (both_there p q f x h (a ∙ sym b)))
    at (inl a) (inr b) = inr (record { there = b; other = a })
    at (inr a) (inl b) = inl (record { there = a; other = b })
    at (inr a) (inr b) = absurd (n (both_there p q f x h (a.one ∙ sym b.one)))

-- ---- multiples

abbrev pub shifted : Exponents → Option Exponents → Option Exponents
shifted u None = None
shifted u (Some x) = Some (plus u x)

pub at_shifted : (u : Exponents) (s : Option Exponents) (e y : Exponents) → same e (plus u y) ≡ true → indicator (shifted u s) e ≡ indicator s y
at_shifted u None e y h = refl
at_shifted u (Some x) e y h = ap (λ b. if b then one_ℚ else zero_ℚ) (same_along e (plus u y) (plus u x) h ∙ same-plus u y x)

pub at_shifted-none : (u : Exponents) (s : Option Exponents) (e : Exponents) → NoMultiple u e → indicator (shifted u s) e ≡ zero_ℚ
at_shifted-none u None e n = refl
at_shifted-none u (Some x) e n = ap (λ b. if b then one_ℚ else zero_ℚ) (n x)

pub multiple_of_binomial : (c : Fraction) (u : Exponents) (p q : Option Exponents) (f : Terms) → IsBinomialOf p q f → (e : Exponents) →
    coefficient (times c u f) e ≡ c *ℚ (indicator (shifted u p) e +ℚ neg_ℚ (indicator (shifted u q) e))
multiple_of_binomial c u p q f h e = elim (multiple_or_not u e) [
  | inl m ↦ coefficient-same (times c u f) e (plus u m.0) m.1 ∙ coefficient-times c u f m.0 ∙ ap (λ z. c *ℚ z) (h.equation m.0
      ∙ ap (λ z. z +ℚ neg_ℚ (indicator q m.0)) (sym (at_shifted u p e m.0 m.1))
      ∙ ap (λ z. indicator (shifted u p) e +ℚ neg_ℚ z) (sym (at_shifted u q e m.0 m.1)))
  | inr n ↦ coefficient-times-none c u f e n ∙ sym (ap (λ z. c *ℚ (z +ℚ neg_ℚ (indicator (shifted u q) e))) (at_shifted-none u p e n)
      ∙ ap (λ z. c *ℚ (zero_ℚ +ℚ neg_ℚ z)) (at_shifted-none u q e n) ∙ ap (λ z. c *ℚ z) (+ℚ-neg_ℚ zero_ℚ) ∙ *ℚ-zero c)
]

-- ---- identities

pub first_replaced : (p q t : Fraction) → (p +ℚ neg_ℚ q) +ℚ neg_ℚ (p +ℚ neg_ℚ t) ≡ t +ℚ neg_ℚ q
first_replaced =
    each_q _ (λ a a' k. each_q _ (λ b b' l. each_q _ (λ c c' m. simp overs (over-eq _ _ _ _ (simp dens (simp naturals (diff-eq _ _ _ _ (omega arith))))))))

pub second_replaced : (p q t : Fraction) → (p +ℚ neg_ℚ q) +ℚ (q +ℚ neg_ℚ t) ≡ p +ℚ neg_ℚ t
second_replaced =
    each_q _ (λ a a' k. each_q _ (λ b b' l. each_q _ (λ c c' m. simp overs (over-eq _ _ _ _ (simp dens (simp naturals (diff-eq _ _ _ _ (omega arith))))))))

pub turned_round : (p q : Fraction) → neg_ℚ (p +ℚ neg_ℚ q) ≡ q +ℚ neg_ℚ p
turned_round = each_q _ (λ a a' k. each_q _ (λ b b' l. simp overs (over-eq _ _ _ _ (simp dens (simp naturals (diff-eq _ _ _ _ (omega arith)))))))
