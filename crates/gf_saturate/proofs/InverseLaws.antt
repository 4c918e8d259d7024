-- Polynomials of a saturation that a basis with the inverse of a variable has.
-- To cite: basis_ring, without_more, without_all, inverse_more, start_twice, start_answer. The rest are steps.
use Rattle.std.proofs.Common.{◌≡◌, ◌⊎◌, ℕ, zero, suc, ◌+◌, ◌<◌, ◌≤◌, List, [], ◌∷◌, ◌++◌, Contains, length, take, map, get_or, arith, refl, sym, ap, ◌∙◌}
use Rattle.std.proofs.Common.{subst, inl, inr}
use Rattle.std.proofs.lemmas.Bool.{cases_lt}
use Rattle.std.proofs.lemmas.List.{take_more, take_all}
use Rattle.std.proofs.lemmas.List.Elements.{Contains-append_left}
use Rattle.gf_int_theory.proofs.ListLaws.{Contains-last}
use Rattle.gf_frac.specs.Fraction.{one_ℚ}
use Rattle.gf_exponents_theory.specs.Exponents.{entry}
use Rattle.gf_poly.specs.declared.Term.{Term}
use Rattle.gf_poly.specs.Polynomial.{Terms, HasVariables, coefficient, times}
use Rattle.gf_poly.specs.Marking.{MarkedPolynomial, MarkedPolynomials, Each}
use Rattle.gf_poly.proofs.MonomialLaws.{entry-ones}
use Rattle.gf_ideal_theory.specs.Membership.{IsMember}
use Rattle.gf_ideal_theory.proofs.ListLaws.{Each-++}
use Rattle.gf_ideal_theory.proofs.ListedTerms.{variables_by_terms}
use Rattle.gf_ideal_theory.proofs.RingLaws.{in_ring_of}
use Rattle.gf_ideal_theory.proofs.MembershipLaws.{member-equal, member-generator, member-trans}
use Rattle.gf_buchberger.specs.Tasks.{HaveRingVariables}
use Rattle.gf_buchberger.proofs.TaskLaws.{ring_variables}
use Rattle.gf_saturation_theory.specs.Saturations.{product_power, IsSaturatedBy, IsSaturated}
use Rattle.gf_saturation_theory.proofs.SubstitutionLaws.{entry-product_power, ring-product_power}
use Rattle.gf_saturation_theory.proofs.SaturationLaws.{saturated_of_extended, saturated_product}
use Rattle.gf_quotients_theory.proofs.LawsHold.{saturations_may_be_divided, saturations_are_ideals}
use Rattle.gf_saturate.specs.Widening.{narrowed_term, widened_term, variable_at}
use Rattle.gf_saturate.specs.Graded.{IsWeightedBasis}
use Rattle.gf_saturate.specs.Proposals.{IsStart}
use Rattle.gf_saturate.specs.Saturating.{IsSaturation, step_list}
use Rattle.gf_saturate.proofs.WideningLaws.{length-variable, same-widened, variables-narrowed, narrowed-back}
use Rattle.gf_saturate.proofs.StepLaws.{extended}
use Rattle.gf_saturate.proofs.ChoiceLaws.{more_enough}

-- ---- without the last variable

pub without_more : (n : ℕ) (f : Terms) (i : ℕ) (t : Term) → i < length f → t ≡ get_or f i t → entry t.mono n ≡ 0 →
    Each (λ (s : Term). entry s.mono n ≡ 0) (take i f) → Each (λ (s : Term). entry s.mono n ≡ 0) (take (i + 1) f)
without_more n f i t l e z h =
    subst (Each (λ (s : Term). entry s.mono n ≡ 0)) (ap (λ (c : Term). take i f ++ c ∷ []) e ∙ sym (take_more f i t l))
    (Each-++ (λ (s : Term). entry s.mono n ≡ 0) (take i f) (t ∷ []) h (z, tt))

pub without_all : (n : ℕ) (f g : Terms) (i : ℕ) → g ≡ f → HasVariables (n + 1) f → length g ≤ i → Each (λ (s : Term). entry s.mono n ≡ 0) (take i g) →
    map widened_term (map (narrowed_term n) f) ≡ f
without_all n f g i e v l h =
    narrowed-back n f v
    (subst (Each (λ (s : Term). entry s.mono n ≡ 0)) e (subst (Each (λ (s : Term). entry s.mono n ≡ 0)) (take_all i g l) h))

-- ---- in the saturation

below_one : (n k i : ℕ) → entry (variable_at n k) i ≤ 1
below_one zero k i = omega arith
below_one (suc n) zero zero = omega arith
below_one (suc n) zero (suc i) = omega (arith, entry-ones n i)
below_one (suc n) (suc k) zero = omega arith
below_one (suc n) (suc k) (suc i) = below_one n k i

by_product : (n k : ℕ) (fs : List Terms) (f : Terms) → k < n → HaveRingVariables n fs → IsSaturatedBy n fs (variable_at n k) f → IsSaturated n fs f
by_product n k fs f l r s =
    (saturated_product n fs f).1
    (more_enough n fs (variable_at n k) (product_power n 1) (ring_variables n fs r) (λ i m. ring-product_power n 1 i m) (λ i. at i (cases_lt i n)) f s)
  where
    at : (i : ℕ) → (i < n) ⊎ (n ≤ i) → entry (variable_at n k) i ≤ entry (product_power n 1) i
    at i (inl m) = omega (arith, below_one n k i, entry-product_power n 1 i m)
    at i (inr m) = omega (arith, in_ring_of n (variable_at n k) (length-variable n k l) i m)

narrowed_inside : (n k : ℕ) (fs : List Terms) (f : Terms) → k < n → HaveRingVariables n fs → HasVariables (n + 1) f →
    IsMember (n + 1) (step_list n k fs) f → map widened_term (map (narrowed_term n) f) ≡ f → IsSaturated n fs (map (narrowed_term n) f)
narrowed_inside n k fs f l r v m e =
    let g : Terms = map (narrowed_term n) f in
    let u : n + 1 ≡ suc n = omega arith in
    by_product n k fs g l r
    (saturated_of_extended n (variable_at n k) fs (step_list n k fs) g (in_ring_of n (variable_at n k) (length-variable n k l)) (ring_variables n fs r)
    (extended n (variable_at n k) fs (length-variable n k l)) (variables_by_terms n g (variables-narrowed n f v))
    (subst (λ (j : ℕ). IsMember j (step_list n k fs) g) u
    (member-equal (n + 1) (step_list n k fs) f g (λ x. sym (same-widened g x ∙ ap (λ z. coefficient z x) e)) m)))

start_added : (n : ℕ) (fs gs hs : List Terms) (f : Terms) → hs ≡ gs ++ f ∷ [] → IsStart n fs gs → HasVariables n f → IsSaturated n fs f → IsStart n fs hs
start_added n fs gs hs f e s v i = subst (IsStart n fs) (sym e) (record {
  ring = record { each = each (HasVariables n) s.ring.each v };
  inside = each (IsSaturated n fs) s.inside i;
  given = λ g c. Contains-append_left gs (f ∷ []) g (s.given g c);
})
  where
    each : (P : Terms → Type 0) → ((h : Terms) → Contains gs h → P h) → P f → (h : Terms) → Contains (gs ++ f ∷ []) h → P h
    each P a b h c = by (Contains-last gs f h c)
      where
        by : Contains gs h ⊎ (h ≡ f) → P h
        by (inl k) = a h k
        by (inr q) = subst P (sym q) b

-- a member of the basis joins
pub inverse_more : (n k : ℕ) (fs gs hs : List Terms) (s : MarkedPolynomials) (b : MarkedPolynomial) (g : Terms) → k < n → HaveRingVariables n fs →
    IsWeightedBasis (n + 1) (step_list n k fs) s → Contains s.items b → hs ≡ gs ++ g ∷ [] → g ≡ map (narrowed_term n) b.poly →
    map widened_term (map (narrowed_term n) b.poly) ≡ b.poly → IsStart n fs gs → IsStart n fs hs
inverse_more n k fs gs hs s b g l r w c e q a h =
    let v : HasVariables (n + 1) b.poly = (w.basis.arranged.canonical b c).variables in
    start_added n fs gs hs g e h (subst (HasVariables n) (sym q) (variables-narrowed n b.poly v))
    (subst (IsSaturated n fs) (sym q) (narrowed_inside n k fs b.poly l r v (w.basis.inside b c) a))

-- ---- one start after another

start_into : (n : ℕ) (fs hs : List Terms) (f : Terms) → HaveRingVariables n fs → IsStart n fs hs → IsSaturated n hs f → IsSaturated n fs f
start_into n fs hs f r s t =
    saturations_may_be_divided n fs (product_power n t.power) (times one_ℚ (product_power n t.power) f) f (ring_variables n fs r)
    (ring-product_power n t.power) (λ e. refl)
    (saturations_are_ideals.combined n fs hs (times one_ℚ (product_power n t.power) f) (ring_variables n fs r) (ring_variables n hs s.ring) s.inside
    t.member)

start_back : (n : ℕ) (fs hs : List Terms) (f : Terms) → IsStart n fs hs → IsSaturated n fs f → IsSaturated n hs f
start_back n fs hs f s t = record {
  power = t.power;
  member =
      member-trans n hs fs (times one_ℚ (product_power n t.power) f) (ring_variables n hs s.ring) (λ h c. member-generator n hs h (s.given h c)) t.member;
}

pub start_twice : (n : ℕ) (fs gs hs : List Terms) → HaveRingVariables n fs → IsStart n fs gs → IsStart n gs hs → IsStart n fs hs
start_twice n fs gs hs r s t = record {
  ring = t.ring;
  inside = λ h c. start_into n fs gs h r s (t.inside h c);
  given = λ f c. t.given f (s.given f c);
}

pub start_answer : (n : ℕ) (fs hs : List Terms) (s : MarkedPolynomials) → HaveRingVariables n fs → IsStart n fs hs → IsSaturation n hs s → IsSaturation n fs s
start_answer n fs hs s r t a = record {
  variables = a.variables;
  members = λ f. (λ m. start_into n fs hs f r t ((a.members f).0 m), λ q. (a.members f).1 (start_back n fs hs f t q));
  reduced = a.reduced;
  arranged = a.arranged;
}
