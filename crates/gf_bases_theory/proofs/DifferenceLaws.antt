-- The difference of two polynomials, monomial by monomial.
-- To cite: difference, less_summand, other_summand, less_zero.
use Rattle.std.proofs.Common.{◌≡◌, [], ◌++◌, sym, ap, ◌∙◌}
use Rattle.gf_frac.specs.Fraction.{Fraction, ◌+ℚ◌, ◌*ℚ◌, neg_ℚ, zero_ℚ, one_ℚ}
use Rattle.gf_frac.proofs.FractionLaws.{+ℚ-zero, +ℚ-neg_ℚ, +ℚ_assoc, +ℚ_comm, zero-+ℚ}
use Rattle.gf_exponents_theory.specs.Exponents.{Exponents}
use Rattle.gf_poly.specs.Polynomial.{Terms, coefficient, times}
use Rattle.gf_poly.proofs.PolynomialLaws.{coefficient-++, coefficient-factor, times-plain}
use Rattle.gf_ideal_theory.proofs.Identities.{neg_one}

-- f less g, monomial by monomial
pub difference : (f g : Terms) (x : Exponents) →
    coefficient (f ++ times (neg_ℚ one_ℚ) [] g) x ≡ coefficient f x +ℚ neg_ℚ (coefficient g x)
difference f g x = coefficient-++ f (times (neg_ℚ one_ℚ) [] g) x ∙ ap (λ z. coefficient f x +ℚ z) (coefficient-factor (neg_ℚ one_ℚ) [] g x ∙
    ap (λ h. neg_ℚ one_ℚ *ℚ coefficient h x) (times-plain g) ∙ neg_one _)

-- a summand taken away
pub less_summand : (r v h : Fraction) → h ≡ r +ℚ v → h +ℚ neg_ℚ v ≡ r
less_summand r v h e = ap (λ z. z +ℚ neg_ℚ v) e ∙ +ℚ_assoc r v (neg_ℚ v) ∙ ap (λ z. r +ℚ z) (+ℚ-neg_ℚ v) ∙ +ℚ-zero r

-- the other one
pub other_summand : (r v h : Fraction) → h ≡ r +ℚ v → h +ℚ neg_ℚ r ≡ v
other_summand r v h e = less_summand v r h (e ∙ +ℚ_comm r v)

pub less_zero : (c : Fraction) → c +ℚ neg_ℚ zero_ℚ ≡ c
less_zero c = ap (λ z. c +ℚ z) (sym (zero-+ℚ (neg_ℚ zero_ℚ)) ∙ +ℚ-neg_ℚ zero_ℚ) ∙ +ℚ-zero c
