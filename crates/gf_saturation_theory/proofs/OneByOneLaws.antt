-- The saturation, one variable after another; where 1 is reached, the rest may be left out.
-- To cite: saturated_none, saturated_next, saturated_all, product_power-next.
use Rattle.std.proofs.Common.{◌≡◌, ◌⊎◌, ◌↔◌, ℕ, zero, suc, ◌<◌, ◌≤◌, true, List, [], ◌∷◌, ◌++◌, arith, refl, sym, ap, ◌∙◌, inl, inr}
use Rattle.std.proofs.lemmas.Bool.{cases_lt}
use Rattle.gf_frac.specs.Fraction.{◌*ℚ◌, one_ℚ}
use Rattle.gf_frac.proofs.FractionLaws.{*ℚ_comm, one-*ℚ}
use Rattle.gf_exponents_theory.specs.Exponents.{Exponents, entry, same, plus, minus, IsInRing}
use Rattle.gf_exponents_theory.proofs.ExponentsLaws.{same_flip, same_by_entries, entries_same, entry-plus, entry-minus, plus-nil, plus_comm}
use Rattle.gf_poly.specs.Polynomial.{Terms, coefficient, SamePolynomial, times}
use Rattle.gf_poly.proofs.PolynomialLaws.{times-plain}
use Rattle.gf_ideal_theory.specs.Membership.{IsInVariables, AreInVariables, IsMember, Spans}
use Rattle.gf_ideal_theory.proofs.SpanLaws.{Spans-equal, Spans-zero, Spans-++, Spans-times}
use Rattle.gf_ideal_theory.proofs.MembershipLaws.{variables-times, spans_of_member, member_of_spans, member-equal, member-times}
use Rattle.gf_saturation_theory.specs.Saturations.{powered, product_power, IsSaturatedBy, IsSaturated, next_variable, one_polynomial}
use Rattle.gf_saturation_theory.proofs.SubstitutionLaws.{entry-product_power, ring-product_power, next-here, next-below, ring-next, ring-powered}
use Rattle.gf_saturation_theory.proofs.SaturationLaws.{times_same, saturated_twice, saturated_same, product_powers}
use Rattle.gf_ideal_theory.proofs.SettledLaws.{twice}

-- ---- by no variable

powered-none : (k : ℕ) → powered k [] ≡ []
powered-none zero = refl
powered-none (suc k) = powered-none k

pub saturated_none : (n : ℕ) (fs : List Terms) (f : Terms) → IsSaturatedBy n fs (product_power 0 1) f ↔ IsMember n fs f
saturated_none n fs f = (
  λ s. member-equal n fs (times one_ℚ (powered s.power []) f) f (λ e. ap (λ x. coefficient (times one_ℚ x f) e) (powered-none s.power) ∙
      ap (λ g. coefficient g e) (times-plain f)) s.member,
  λ m. record { power = 0; member = member-equal n fs f (times one_ℚ [] f) (λ e. ap (λ g. coefficient g e) (sym (times-plain f))) m },
)

-- ---- by one more

-- the product of one variable more
pub product_power-next : (k : ℕ) → same (plus (next_variable k) (product_power k 1)) (product_power (suc k) 1) ≡ true
product_power-next k = same_by_entries (plus (next_variable k) (product_power k 1)) (product_power (suc k) 1) (λ i. at i (cases_lt i k))
  where
    here : (i : ℕ) → i ≡ k → entry (next_variable k) i ≡ 1
    here i e = ap (entry (next_variable k)) e ∙ next-here k

    from : (i : ℕ) → k ≤ i → (k < i) ⊎ (i ≤ k) → entry (plus (next_variable k) (product_power k 1)) i ≡ entry (product_power (suc k) 1) i
    from i g (inl l) = omega (
      arith,
      entry-plus (next_variable k) (product_power k 1) i,
      ring-next k i (omega (arith, l)),
      ring-product_power k 1 i g,
      ring-product_power (suc k) 1 i (omega (arith, l)),
    )
    from i g (inr l) = omega (
      arith,
      entry-plus (next_variable k) (product_power k 1) i,
      here i (omega (arith, g, l)),
      ring-product_power k 1 i g,
      entry-product_power (suc k) 1 i (omega (arith, l)),
    )

    at : (i : ℕ) → (i < k) ⊎ (k ≤ i) → entry (plus (next_variable k) (product_power k 1)) i ≡ entry (product_power (suc k) 1) i
    at i (inl l) = omega (
      arith,
      entry-plus (next_variable k) (product_power k 1) i,
      next-below k i l,
      entry-product_power k 1 i l,
      entry-product_power (suc k) 1 i (omega (arith, l)),
    )
    at i (inr g) = from i g (cases_lt k i)

pub saturated_next : (n k : ℕ) (fs gs : List Terms) → k < n → ((f : Terms) → IsMember n gs f ↔ IsSaturatedBy n fs (product_power k 1) f) →
    (f : Terms) → IsSaturatedBy n gs (next_variable k) f ↔ IsSaturatedBy n fs (product_power (suc k) 1) f
saturated_next n k fs gs l eq f = (
  λ s. saturated_same n (plus (next_variable k) (product_power k 1)) (product_power (suc k) 1) fs f (product_power-next k) (both.0 s),
  λ s. both.1 (saturated_same n (product_power (suc k) 1) (plus (next_variable k) (product_power k 1)) fs f
      (same_flip (plus (next_variable k) (product_power k 1)) (product_power (suc k) 1) (product_power-next k)) s),
)
  where
    both : IsSaturatedBy n gs (next_variable k) f ↔ IsSaturatedBy n fs (plus (next_variable k) (product_power k 1)) f
    both = saturated_twice n (next_variable k) (product_power k 1) fs gs (λ i g. ring-next k i (omega (arith, l, g))) (λ i g. ring-product_power k 1 i
        (omega (arith, l, g))) eq f

-- ---- where 1 is reached

-- what spans a multiple of 1 spans the same multiple of all
spans_multiples : (fs : List Terms) (w : Exponents) → Spans fs (times one_ℚ w one_polynomial) → (f : Terms) → Spans fs (times one_ℚ w f)
spans_multiples fs w s [] = Spans-zero fs
spans_multiples fs w s (t ∷ f) = Spans-equal fs (times t.coef t.mono (times one_ℚ w one_polynomial) ++ times one_ℚ w f) (times one_ℚ w (t ∷ f)) equal
    (Spans-++ fs (times t.coef t.mono (times one_ℚ w one_polynomial)) (times one_ℚ w f) (Spans-times fs (times one_ℚ w one_polynomial) t.coef t.mono s)
    (spans_multiples fs w s f))
  where
    equal : SamePolynomial (times t.coef t.mono (times one_ℚ w one_polynomial) ++ times one_ℚ w f) (times one_ℚ w (t ∷ f))
    equal e =
        ap (λ c. coefficient (record { coef = c; mono = plus t.mono (plus w []) } ∷ times one_ℚ w f) e)
        (ap (λ c. t.coef *ℚ c) (one-*ℚ one_ℚ) ∙ *ℚ_comm t.coef one_ℚ)
        ∙ ap (λ x. coefficient (record { coef = one_ℚ *ℚ t.coef; mono = x } ∷ times one_ℚ w f) e) (ap (plus t.mono) (plus-nil w) ∙ plus_comm t.mono w)

-- of the first k variables: 1 in the saturation by these is all in the saturation by all
pub saturated_all : (n k : ℕ) (fs : List Terms) (f : Terms) → k ≤ n → AreInVariables n fs → IsInVariables n f →
    IsSaturatedBy n fs (product_power k 1) one_polynomial → IsSaturated n fs f
saturated_all n k fs f l v w s = record {
  power = p;
  member = member-equal n fs (times one_ℚ d (times one_ℚ u f)) (times one_ℚ (product_power n p) f)
      (λ e. ap (λ g. coefficient g e) (sym (twice d u f)) ∙ times_same one_ℚ (plus d u) (product_power n p) f meets e)
      (member-times n fs (times one_ℚ u f) one_ℚ d d_ring all);
}
  where
    p : ℕ
    p = s.power

    u : Exponents
    u = powered p (product_power k 1)

    d : Exponents
    d = minus (product_power n p) u

    u_ring : IsInRing n u
    u_ring = ring-powered n p (product_power k 1) (λ i g. ring-product_power k 1 i (omega (arith, l, g)))

    d_ring : IsInRing n d
    d_ring i g = omega (arith, entry-minus (product_power n p) u i, ring-product_power n p i g)

    at_most : (i : ℕ) → entry u i ≤ p
    at_most i = at (cases_lt i k)
      where
        is : entry u i ≡ entry (product_power k p) i
        is = entries_same u (product_power k p) (product_powers k p) i

        at : (i < k) ⊎ (k ≤ i) → entry u i ≤ p
        at (inl g) = omega (arith, is, entry-product_power k p i g)
        at (inr g) = omega (arith, is, ring-product_power k p i g)

    meets : same (plus d u) (product_power n p) ≡ true
    meets = same_by_entries (plus d u) (product_power n p) (λ i. at i (cases_lt i n))
      where
        at : (i : ℕ) → (i < n) ⊎ (n ≤ i) → entry (plus d u) i ≡ entry (product_power n p) i
        at i (inl g) = omega (arith, entry-plus d u i, entry-minus (product_power n p) u i, at_most i, entry-product_power n p i g)
        at i (inr g) = omega (arith, entry-plus d u i, entry-minus (product_power n p) u i, u_ring i g, ring-product_power n p i g)

    all : IsMember n fs (times one_ℚ u f)
    all = member_of_spans n fs (times one_ℚ u f) v (variables-times n one_ℚ u f u_ring w)
        (spans_multiples fs u (spans_of_member n fs (times one_ℚ u one_polynomial) s.member) f)
