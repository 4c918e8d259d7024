-- The sum of the coefficients of a polynomial, its value where each variable is 1. Where it is 0 of each generator it is 0 of each polynomial of the ideal.
-- To cite: sum_of, sum_same, sum_of_member, sum_of_binomial, sum_of_monomial. The rest are steps.
use Rattle.std.proofs.Common.{◌≡◌, ◌⊎◌, ℕ, Bool, true, false, if◌then◌else◌, List, [], ◌∷◌, ◌++◌, Contains, Some, refl, sym, ap, ◌∙◌, inl, inr}
use Rattle.gf_frac.specs.Fraction.{Fraction, ◌+ℚ◌, ◌*ℚ◌, neg_ℚ, zero_ℚ, one_ℚ}
use Rattle.gf_frac.proofs.FractionLaws.{*ℚ-+ℚ, *ℚ-zero, +ℚ-zero, zero-+ℚ, +ℚ-neg_ℚ, zero_or_not}
use Rattle.gf_exponents_theory.specs.Exponents.{Exponents, same}
use Rattle.gf_poly.specs.Polynomial.{Terms, coefficient, SamePolynomial, times}
use Rattle.gf_poly.proofs.PolynomialLaws.{coefficient-++, coefficient-same}
use Rattle.gf_ideal_theory.specs.Membership.{HasMonomial, IsMember, Spans}
use Rattle.gf_ideal_theory.proofs.Identities.{neg_one}
use Rattle.gf_ideal_theory.proofs.MembershipLaws.{spans_of_member}
use Rattle.gf_saturation_theory.proofs.SubstitutionLaws.{mapped, mapped_same, mapped-++}
use Rattle.gf_binomials_theory.specs.Binomials.{IsBinomialOf}
use Rattle.gf_binomial_bases_theory.proofs.CongruenceLaws.{binomial, binomial-is, binomials_same}

-- each monomial becomes 1
abbrev one_for : Exponents → Exponents
one_for x = []

abbrev pub sum_of : Terms → Fraction
sum_of f = coefficient (mapped one_for f) []

pub sum_same : (f g : Terms) → SamePolynomial f g → sum_of f ≡ sum_of g
sum_same f g h = mapped_same one_for (λ x y s. refl) f g h []

sum-++ : (f g : Terms) → sum_of (f ++ g) ≡ sum_of f +ℚ sum_of g
sum-++ f g = ap (λ (h : Terms). coefficient h []) (mapped-++ one_for f g) ∙ coefficient-++ (mapped one_for f) (mapped one_for g) []

sum-times : (c : Fraction) (u : Exponents) (f : Terms) → sum_of (times c u f) ≡ c *ℚ sum_of f
sum-times c u [] = sym (*ℚ-zero c)
sum-times c u (t ∷ f) = ap (λ z. c *ℚ t.coef +ℚ z) (sum-times c u f) ∙ sym (*ℚ-+ℚ c t.coef (sum_of f))

sum_of_spans : (fs : List Terms) → ((g : Terms) → Contains fs g → sum_of g ≡ zero_ℚ) → (f : Terms) → Spans fs f → sum_of f ≡ zero_ℚ
sum_of_spans fs z f (Spans.none g e) = sum_same f [] e
sum_of_spans fs z f (Spans.more c u p h g k s e) =
    sum_same f (times c u p ++ g) e ∙ sum-++ (times c u p) g
    ∙ ap (λ y. y +ℚ sum_of g) (sum-times c u p ∙ ap (λ y. c *ℚ y) (z p k) ∙ *ℚ-zero c)
    ∙ zero-+ℚ (sum_of g) ∙ sum_of_spans fs z g s

pub sum_of_member : (n : ℕ) (fs : List Terms) (f : Terms) → ((g : Terms) → Contains fs g → sum_of g ≡ zero_ℚ) → IsMember n fs f → sum_of f ≡ zero_ℚ
sum_of_member n fs f z m = sum_of_spans fs z f (spans_of_member n fs f m)

-- it is 0 of a difference of two monomials
pub sum_of_binomial : (p q : Exponents) (f : Terms) → IsBinomialOf (Some p) (Some q) f → sum_of f ≡ zero_ℚ
sum_of_binomial p q f h =
    sum_same f (binomial (Some p) (Some q)) (binomials_same (Some p) (Some q) (Some p) (Some q) f (binomial (Some p) (Some q)) h
    (binomial-is (Some p) (Some q)) (λ e. refl) (λ e. refl))
    ∙ ap (λ z. one_ℚ +ℚ z) (+ℚ-zero (neg_ℚ one_ℚ *ℚ one_ℚ) ∙ neg_one one_ℚ) ∙ +ℚ-neg_ℚ one_ℚ

-- and 1 of a monomial
pub sum_of_monomial : (f : Terms) (x : Exponents) → coefficient f x ≡ one_ℚ → ((y : Exponents) → HasMonomial f y → same y x ≡ true) → sum_of f ≡ one_ℚ
sum_of_monomial f x one alone = sum_same f (record { coef = one_ℚ; mono = x } ∷ []) (λ y. at y (same y x) refl) ∙ +ℚ-zero one_ℚ
  where
    at : (y : Exponents) (b : Bool) → same y x ≡ b → coefficient f y ≡ coefficient (record { coef = one_ℚ; mono = x } ∷ []) y
    at y true s =
        coefficient-same f y x s ∙ one ∙ sym (+ℚ-zero one_ℚ) ∙ ap (λ b. (if b then one_ℚ else zero_ℚ) +ℚ zero_ℚ) (sym s)
    at y false s = none (zero_or_not (coefficient f y)) ∙ sym (+ℚ-zero zero_ℚ) ∙ ap (λ b. (if b then one_ℚ else zero_ℚ) +ℚ zero_ℚ) (sym s)
      where
        none : (coefficient f y ≡ zero_ℚ) ⊎ (coefficient f y ≡ zero_ℚ → ⊥) → coefficient f y ≡ zero_ℚ
        none (inl z) = z
        none (inr m) = absurd (let no : true ≡ false = sym (alone y m) ∙ s in cc)
