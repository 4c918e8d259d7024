-- Differences of two monomials, divided by a monomial.
-- To cite: binomial_divided.
use Rattle.std.proofs.Common.{◌≡◌, ◌⊎◌, true, if◌then◌else◌, Option, Some, None, refl, sym, ap, ◌∙◌, inl, inr}
use Rattle.gf_frac.specs.Fraction.{◌+ℚ◌, neg_ℚ, zero_ℚ, one_ℚ}
use Rattle.gf_exponents_theory.specs.Exponents.{Exponents, same, plus, NoMultiple}
use Rattle.gf_exponents_theory.proofs.ExponentsLaws.{same-sym, same_along, same-plus, multiple_or_not}
use Rattle.gf_poly.specs.Polynomial.{Terms, SamePolynomial, times}
use Rattle.gf_binomials_theory.specs.Binomials.{indicator, IsBinomial}
use Rattle.gf_quotients_theory.proofs.QuotientLaws.{coefficient_at}

-- p divided by u, where it is a multiple; else nothing
record IsShared (u : Exponents) (p : Option Exponents) : Type 0 where
  of : Option Exponents
  equal : (x : Exponents) → indicator p (plus u x) ≡ indicator of x

shared : (u : Exponents) (p : Option Exponents) → IsShared u p
shared u None = record { of = None; equal = λ x. refl }
shared u (Some y) = at (multiple_or_not u y)
  where
    at : ((z : Exponents) × (same y (plus u z) ≡ true)) ⊎ NoMultiple u y → IsShared u (Some y)
    at (inl r) = record {
      of = Some r.0;
      equal =
          λ x. ap (λ b. if b then one_ℚ else zero_ℚ) (same-sym (plus u x) y ∙ same_along y (plus u r.0) (plus u x) r.1 ∙ same-plus u r.0 x ∙ same-sym r.0 x);
    }
    at (inr n) = record { of = None; equal = λ x. ap (λ b. if b then one_ℚ else zero_ℚ) (same-sym (plus u x) y ∙ n x) }

pub binomial_divided : (u : Exponents) (f g : Terms) → SamePolynomial f (times one_ℚ u g) → IsBinomial f → IsBinomial g
binomial_divided u f g h b = record {
  first = p.of;
  second = q.of;
  binomial = record {
    equation = λ x.
        sym (coefficient_at u g x)
        ∙ sym (h (plus u x))
        ∙ b.binomial.equation (plus u x)
        ∙ ap (λ z. z +ℚ neg_ℚ (indicator b.second (plus u x))) (p.equal x)
        ∙ ap (λ z. indicator p.of x +ℚ neg_ℚ z) (q.equal x);
  };
}
  where
    p : IsShared u b.first
    p = shared u b.first

    q : IsShared u b.second
    q = shared u b.second
