-- A saturation that 1 is in has all polynomials. To cite: one_descends, one_kept, one_listed, one_generates.
use Rattle.std.specs.Prelude.{replicate}
use Rattle.std.proofs.Common.{◌≡◌, ◌⊎◌, ℕ, Bool, true, if◌then◌else◌, List, [], ◌∷◌, ◌++◌, Contains, arith, refl, sym, ap, subst, ◌∙◌, inl, inr}
use Rattle.std.proofs.lemmas.List.{length-replicate}
use Rattle.gf_int_theory.proofs.ListLaws.{Contains-here}
use Rattle.gf_frac.specs.Fraction.{Fraction, ◌+ℚ◌, zero_ℚ, one_ℚ}
use Rattle.gf_frac.proofs.FractionLaws.{*ℚ-one}
use Rattle.gf_exponents_theory.specs.Exponents.{Exponents, same, plus}
use Rattle.gf_exponents_theory.proofs.ExponentsLaws.{plus-nil, same_by_entries, same_along, same-sym}
use Rattle.gf_poly.specs.Polynomial.{Terms, HasVariables, IsDescending, coefficient, SamePolynomial, times}
use Rattle.gf_poly.proofs.MonomialLaws.{entry-ones}
use Rattle.gf_ideal_theory.specs.Membership.{IsMember, Spans}
use Rattle.gf_ideal_theory.proofs.Identities.{one_not_zero}
use Rattle.gf_ideal_theory.proofs.ListLaws.{Contains-cases}
use Rattle.gf_ideal_theory.proofs.SpanLaws.{Spans-zero, Spans-equal, Spans-generator, Spans-++, Spans-times}
use Rattle.gf_ideal_theory.proofs.MembershipLaws.{member_of_spans, variables_of_member}
use Rattle.gf_buchberger.specs.Tasks.{HaveRingVariables}
use Rattle.gf_buchberger.proofs.TaskLaws.{ring_variables}
use Rattle.gf_saturation_theory.specs.Saturations.{product_power, IsSaturated, HasOneTermMember, one_polynomial}
use Rattle.gf_saturation_theory.proofs.SubstitutionLaws.{ring-product_power}
use Rattle.gf_saturation_theory.proofs.SaturationLaws.{saturated_product}
use Rattle.gf_saturation_theory.proofs.LawsHold.{monomials_are_told, variables_one_by_one}
use Rattle.gf_quotients_theory.specs.Ways.{IsOnTheWay}
use Rattle.gf_quotients_theory.proofs.LawsHold.{saturations_may_be_divided}
use Rattle.gf_quotients_theory.proofs.WayLaws.{saturated_variables}
use Rattle.gf_saturate.specs.Graded.{one_list, GenerateSaturation}

-- the constant 1 as it is kept
abbrev kept_one : ℕ → Terms
kept_one n = record { coef = one_ℚ; mono = replicate n 0 } ∷ []

pub one_descends : (n : ℕ) → IsDescending (kept_one n)
one_descends n = (one_not_zero, tt, tt)

pub one_kept : (n : ℕ) (xs ys : Terms) (c : Fraction) (x : Exponents) → xs ≡ [] → ys ≡ xs ++ record { coef = c; mono = x } ∷ [] → c ≡ one_ℚ →
    x ≡ replicate n 0 → ys ≡ kept_one n
one_kept n xs ys c x d e f g =
    e ∙ ap (λ (w : Terms). w ++ record { coef = c; mono = x } ∷ []) d ∙ ap (λ z. record { coef = z; mono = x } ∷ []) f
    ∙ ap (λ z. record { coef = one_ℚ; mono = z } ∷ []) g

pub one_listed : (n : ℕ) (os ps : List Terms) (f : Terms) → os ≡ [] → ps ≡ os ++ f ∷ [] → f ≡ kept_one n → ps ≡ one_list n
one_listed n os ps f d e g = e ∙ ap (λ (w : List Terms). w ++ f ∷ []) d ∙ ap (λ (z : Terms). z ∷ []) g

kept_same : (n : ℕ) → SamePolynomial (kept_one n) one_polynomial
kept_same n e = ap (λ (b : Bool). (if b then one_ℚ else zero_ℚ) +ℚ zero_ℚ) (same-sym e zeros ∙ same_along zeros [] e none ∙ same-sym [] e)
  where
    zeros : Exponents
    zeros = replicate n 0

    none : same zeros [] ≡ true
    none = same_by_entries zeros [] (λ i. entry-ones n i)

-- what spans 1 spans all
spans_all : (fs : List Terms) → Spans fs one_polynomial → (f : Terms) → Spans fs f
spans_all fs s [] = Spans-zero fs
spans_all fs s (t ∷ f) =
    Spans-equal fs (times t.coef t.mono one_polynomial ++ f) (t ∷ f) equal
    (Spans-++ fs (times t.coef t.mono one_polynomial) f (Spans-times fs one_polynomial t.coef t.mono s) (spans_all fs s f))
  where
    equal : SamePolynomial (times t.coef t.mono one_polynomial ++ f) (t ∷ f)
    equal e =
        ap (λ c. coefficient (record { coef = c; mono = plus t.mono [] } ∷ f) e) (*ℚ-one t.coef)
        ∙ ap (λ x. coefficient (record { coef = t.coef; mono = x } ∷ f) e) (plus-nil t.mono)

one_spans : (n : ℕ) (f : Terms) → Spans (one_list n) f
one_spans n f =
    spans_all (one_list n)
    (Spans-equal (one_list n) (kept_one n) one_polynomial (kept_same n) (Spans-generator (one_list n) (kept_one n) (Contains-here (kept_one n) []))) f

one_ring : (n : ℕ) → HaveRingVariables n (one_list n)
one_ring n = record { each = λ f c. at f (Contains-cases (kept_one n) f [] c) }
  where
    at : (f : Terms) → (kept_one n ≡ f) ⊎ Contains [] f → HasVariables n f
    at f (inl e) = subst (HasVariables n) e (length-replicate n 0, tt)
    at f (inr z) = absurd (omega (arith, z.1))

-- where a polynomial of one term is in the ideal of a list on the way, 1 alone generates the saturation
pub one_generates : (n : ℕ) (fs hs os : List Terms) (v : Exponents) → HaveRingVariables n fs → HaveRingVariables n hs → IsOnTheWay n fs hs v →
    HasOneTermMember n hs → os ≡ one_list n → GenerateSaturation n fs os
one_generates n fs hs os v r k w m e =
    subst (GenerateSaturation n fs) (sym e) (record { ring = one_ring n; members = λ f. (λ h. into f h, λ s. back f s) })
  where
    t : IsSaturated n hs one_polynomial
    t = (monomials_are_told.one n hs (ring_variables n hs k)).0 m

    one : IsSaturated n fs one_polynomial
    one =
        saturations_may_be_divided n fs (product_power n t.power) (times one_ℚ (product_power n t.power) one_polynomial) one_polynomial
        (ring_variables n fs r) (ring-product_power n t.power) (λ x. refl) (w.inside (times one_ℚ (product_power n t.power) one_polynomial) t.member)

    into : (f : Terms) → IsMember n (one_list n) f → IsSaturated n fs f
    into f h =
        variables_one_by_one.one n n fs f (omega arith) (ring_variables n fs r)
        (variables_of_member n (one_list n) f (ring_variables n (one_list n) (one_ring n)) h) ((saturated_product n fs one_polynomial).0 one)

    back : (f : Terms) → IsSaturated n fs f → IsMember n (one_list n) f
    back f s =
        member_of_spans n (one_list n) f (ring_variables n (one_list n) (one_ring n)) (saturated_variables n fs f (ring_variables n fs r) s) (one_spans n f)
