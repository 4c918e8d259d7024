-- The sets on the way, and what stands at the end.
-- To cite: step_generates, by_no_power, given_stage, reduced_stage, left_stage, way_next, saturation_of, ring_on_the_way, way_ring, if_memory.
-- The rest are steps.
use Rattle.std.specs.Prelude.{IfErr, IfSome, Option, None, Some}
use Rattle.std.proofs.Common.{◌≡◌, ◌⊎◌, ◌↔◌, ℕ, zero, suc, ◌+◌, ◌<◌, ◌≤◌, true, List, [], Contains, length, arith, refl, sym, ap, subst, inl, inr, Result, Ok}
use Rattle.std.proofs.Common.{Err}
use Rattle.gf_exponents_theory.specs.Exponents.{Exponents, entry, same}
use Rattle.gf_exponents_theory.specs.Orders.{IsDeglexBelow}
use Rattle.gf_exponents_theory.specs.SixOrders.{MonomialOrder}
use Rattle.gf_exponents_theory.proofs.ExponentsLaws.{same_by_entries, same_flip}
use Rattle.gf_frac.specs.Fraction.{one_ℚ}
use Rattle.gf_poly.specs.Polynomial.{Terms, HasVariables, coefficient, times}
use Rattle.gf_poly.proofs.PolynomialLaws.{times-plain}
use Rattle.gf_poly.proofs.MonomialLaws.{entry-ones}
use Rattle.gf_poly.specs.Marking.{MarkedPolynomial, MarkedPolynomials, polys}
use Rattle.gf_ideal_theory.specs.Membership.{IsMember}
use Rattle.gf_ideal_theory.specs.Bases.{IsBasis, IsReducedBasisFor}
use Rattle.gf_ideal_theory.proofs.MembershipLaws.{member-equal, member-generator}
use Rattle.gf_ideal_theory.proofs.PieceLaws.{Contains-marked, Contains-polys}
use Rattle.gf_ideal_theory.proofs.RingLaws.{in_ring_of}
use Rattle.gf_buchberger.specs.Tasks.{HaveRingVariables}
use Rattle.gf_buchberger.specs.declared.bases.BasisError.{BasisError}
use Rattle.gf_buchberger.specs.Bases.{IsArrangedBasis, IsWantOfMemory}
use Rattle.gf_buchberger.proofs.TaskLaws.{ring_variables}
use Rattle.gf_saturation_theory.specs.Saturations.{product_power, next_variable, IsSaturatedBy, AreLeftOver}
use Rattle.gf_saturation_theory.proofs.SaturationLaws.{extended_variables, saturated_same, saturated_product}
use Rattle.gf_saturation_theory.proofs.OneByOneLaws.{saturated_none, saturated_next}
use Rattle.gf_saturation_theory.proofs.EliminationLaws.{deglex_basis, member_of_basis, basis_of_member}
use Rattle.gf_saturation_theory.proofs.LawsHold.{saturations_are_worked_out}
use Rattle.gf_saturate.specs.declared.stages.Stage.{Stage}
use Rattle.gf_saturate.specs.Widening.{extended_list, left_over, variable_at}
use Rattle.gf_saturate.specs.Marks.{CoverHeads, CoverFreeHeads}
use Rattle.gf_saturate.specs.Saturating.{AddsNothing, IsVariableStep, IsOnTheWay, IsStage, IsSaturation, IsSaturateRefusal, AreStepsWithinLimits, step_order}
use Rattle.gf_saturate.specs.Saturating.{step_list}
use Rattle.gf_saturate.proofs.WideningLaws.{length-variable}
use Rattle.gf_saturate.proofs.StepLaws.{extended, left_over-are, left_over-ring, to_eliminate, reduced_of}
use Rattle.gf_saturate.proofs.SparedLaws.{adds_nothing, left_over_spared}

-- ---- the variable as it is kept

pub variable-same : (n k : ℕ) → k < n → same (variable_at n k) (next_variable k) ≡ true
variable-same n k l = same_by_entries (variable_at n k) (next_variable k) (λ i. at n k i l)
  where
    at : (n k i : ℕ) → k < n → entry (variable_at n k) i ≡ entry (next_variable k) i
    at zero k i l = absurd (omega arith)
    at (suc n) zero zero l = refl
    at (suc n) zero (suc i) l = entry-ones n i
    at (suc n) (suc k) zero l = refl
    at (suc n) (suc k) (suc i) l = at n k i (omega arith)

-- ---- one step

step_left : (n k : ℕ) (fs : List Terms) (s : MarkedPolynomials) → IsArrangedBasis (step_order n) (n + 1) (step_list n k fs) s →
    AreLeftOver n s.items (left_over n s.items)
step_left n k fs s b = left_over-are n s.items s.items (to_eliminate n (step_list n k fs) s b) (λ c m. m)

pub step_generates : (n k : ℕ) (fs : List Terms) (s : MarkedPolynomials) → k < n → HaveRingVariables n fs →
    IsArrangedBasis (step_order n) (n + 1) (step_list n k fs) s → (f : Terms) → IsMember n (left_over n s.items) f ↔ IsSaturatedBy n fs (next_variable k) f
step_generates n k fs s l v b f = (
  λ m. saturated_same n u (next_variable k) fs f (variable-same n k l) (one.0 m),
  λ t. one.1 (saturated_same n (next_variable k) u fs f (same_flip u (next_variable k) (variable-same n k l)) t),
)
  where
    u : Exponents
    u = variable_at n k

    one : IsMember n (left_over n s.items) f ↔ IsSaturatedBy n fs u f
    one = saturations_are_worked_out.left_over n u fs (extended_list u fs) (left_over n s.items) s.items f (in_ring_of n u (length-variable n k l))
        (ring_variables n fs v)
        (extended n u fs (length-variable n k l)) (reduced_of n (extended_list u fs) s b) (step_left n k fs s b)

step_ring : (n k : ℕ) (fs : List Terms) (s : MarkedPolynomials) → IsArrangedBasis (step_order n) (n + 1) (step_list n k fs) s →
    HaveRingVariables n (left_over n s.items)
step_ring n k fs s b = left_over-ring n s.items (λ c m. (b.arranged.canonical c m).variables)

step_spared : (n k j : ℕ) (fs : List Terms) (s : MarkedPolynomials) → k < n → j < n → HaveRingVariables n fs →
    IsArrangedBasis (step_order n) (n + 1) (step_list n k fs) s → ((b : MarkedPolynomial) → Contains s.items b → entry b.head n ≡ 0 → entry b.head j ≡ 0) →
    AddsNothing n j (left_over n s.items)
step_spared n k j fs s l m v b none =
    let u : Exponents = variable_at n k in
    left_over_spared n j (step_list n k fs) (left_over n s.items) s.items m
    (extended_variables n u fs (step_list n k fs) (in_ring_of n u (length-variable n k l)) (ring_variables n fs v) (extended n u fs (length-variable n k l)))
    (reduced_of n (step_list n k fs) s b) (step_left n k fs s b) none

-- ---- the basis by degree

pub degree_members : (n : ℕ) (fs : List Terms) (s : MarkedPolynomials) → HaveRingVariables n fs → IsArrangedBasis MonomialOrder.deglex n fs s → (f : Terms) →
    IsMember n (polys s.items) f ↔ IsMember n fs f
degree_members n fs s v b f = (
  λ m. member_of_basis n fs s.items f (ring_variables n fs v) basis m,
  λ m. basis_of_member n fs s.items f (ring_variables n fs v)
      basis m,
)
  where
    basis : IsBasis n fs s.items
    basis = deglex_basis n fs s.items b.reduced

degree_ring : (n : ℕ) (fs : List Terms) (s : MarkedPolynomials) → IsArrangedBasis MonomialOrder.deglex n fs s → HaveRingVariables n (polys s.items)
degree_ring n fs s b = record { each = λ f c. let m = Contains-marked s.items f c in subst (HasVariables n) m.2 (b.arranged.canonical m.0 m.1).variables }

-- it is a basis of its own polynomials
degree_own : (n : ℕ) (fs : List Terms) (s : MarkedPolynomials) → HaveRingVariables n fs → IsArrangedBasis MonomialOrder.deglex n fs s →
    IsBasis n (polys s.items) s.items
degree_own n fs s v b = record {
  members = λ c k. (degree_members n fs s v b c.poly).1 (basis.members c k);
  marked = basis.marked;
  decides = λ f m i. basis.decides f ((degree_members n fs s v b f).0 m) i;
}
  where
    basis : IsBasis n fs s.items
    basis = deglex_basis n fs s.items b.reduced

pub degree_reduced : (n : ℕ) (fs : List Terms) (s : MarkedPolynomials) → HaveRingVariables n fs → IsArrangedBasis MonomialOrder.deglex n fs s →
    IsReducedBasisFor n (polys s.items) IsDeglexBelow s.items
degree_reduced n fs s v b = record {
  basis = record {
    members = λ c k. (degree_members n fs s v b c.poly).1 (b.reduced.basis.members c k);
    marked = b.reduced.basis.marked;
    initial = λ f m x t. b.reduced.basis.initial f ((degree_members n fs s v b f).0 m) x t;
  };
  tails = b.reduced.tails;
  heads = b.reduced.heads;
}

-- and the reduced one
degree_arranged : (n : ℕ) (fs : List Terms) (s : MarkedPolynomials) → HaveRingVariables n fs → IsArrangedBasis MonomialOrder.deglex n fs s →
    IsArrangedBasis MonomialOrder.deglex n (polys s.items) s
degree_arranged n fs s v b = record {
  variables = b.variables;
  reduced = degree_reduced n fs s v b;
  arranged = b.arranged;
  marked = b.marked;
  inside = λ c k. member-generator n (polys s.items) c.poly (Contains-polys s.items c k);
  back = λ f c. member-generator n (polys s.items) f c;
}

-- ---- what a set on the way stands for

record StandsFor (n : ℕ) (fs : List Terms) (k : ℕ) (hs : List Terms) : Type 0 where
  ring : HaveRingVariables n hs
  members : (f : Terms) → IsMember n hs f ↔ IsSaturatedBy n fs (product_power k 1) f

at_first : (n : ℕ) (fs hs : List Terms) → HaveRingVariables n fs →
    (hs ≡ fs) ⊎ ((s : MarkedPolynomials) × IsArrangedBasis MonomialOrder.deglex n fs s × (hs ≡ polys s.items)) → StandsFor n fs zero hs
at_first n fs hs v (inl e) = subst (StandsFor n fs zero) (sym e) (record { ring = v; members = λ f. ((saturated_none n fs f).1, (saturated_none n fs f).0) })
at_first n fs hs v (inr h) = subst (StandsFor n fs zero) (sym h.2) (record {
  ring = degree_ring n fs h.0 h.1;
  members = λ f. (
    λ m. (saturated_none n fs f).1 ((degree_members n fs h.0 v h.1 f).0 m),
    λ s. (degree_members n fs h.0 v h.1 f).1 ((saturated_none n fs f).0 s),
  );
})

-- what is a member is in the saturation
pub by_no_power : (n : ℕ) (u : Exponents) (gs : List Terms) (f : Terms) → IsMember n gs f → IsSaturatedBy n gs u f
by_no_power n u gs f m = record { power = 0; member = member-equal n gs f (times one_ℚ [] f) (λ e. ap (λ g. coefficient g e) (sym (times-plain f))) m }

at_next : (n k : ℕ) (fs gs hs : List Terms) → k < n → HaveRingVariables n fs → StandsFor n fs k gs →
    IsVariableStep n k gs hs ⊎ (AddsNothing n k gs × (hs ≡ gs)) → StandsFor n fs (suc k) hs
at_next n k fs gs hs l v w (inl s) = subst (StandsFor n fs (suc k)) (sym s.is) (record {
  ring = step_ring n k gs s.basis s.is_basis;
  members = λ f.
      let g = step_generates n k gs s.basis l w.ring s.is_basis f in
      let t = saturated_next n k fs gs l w.members f in
      (λ m. t.0 (g.0 m), λ q. g.1 (t.1 q));
})
at_next n k fs gs hs l v w (inr s) = subst (StandsFor n fs (suc k)) (sym s.1) (record {
  ring = w.ring;
  members = λ f.
      let t = saturated_next n k fs gs l w.members f in
      (λ m. t.0 (by_no_power n (next_variable k) gs f m), λ q. s.0 f (t.1 q));
})

stands_for : (n : ℕ) (fs : List Terms) (k : ℕ) (hs : List Terms) → k ≤ n → HaveRingVariables n fs → IsOnTheWay n fs k hs → StandsFor n fs k hs
stands_for n fs zero hs l v w = at_first n fs hs v w
stands_for n fs (suc k) hs l v w = at_next n k fs w.0 hs (omega arith) v (stands_for n fs k w.0 (omega arith) v w.1) w.2

-- ---- stages

none_known : (n : ℕ) (s : Stage) → s.basis ≡ None → IfSome s.basis (IsArrangedBasis MonomialOrder.deglex n s.polys.items)
none_known n s u = subst (λ (b : Option MarkedPolynomials). IfSome b (IsArrangedBasis MonomialOrder.deglex n s.polys.items)) (sym u) tt

pub given_stage : (n : ℕ) (fs : List Terms) (s : Stage) → HaveRingVariables n fs → s.polys.items ≡ fs → length s.marks ≡ n →
    ((k : ℕ) → k < n → entry s.marks k ≡ 1) → s.basis ≡ None → IsStage n s
given_stage n fs s v e l one u = record {
  ring = subst (HaveRingVariables n) (sym e) v;
  long = l;
  spared = λ k m z. absurd (omega (arith, one k m, z));
  known = none_known n s u;
}

pub reduced_stage : (n : ℕ) (fs : List Terms) (b : MarkedPolynomials) (s : Stage) → HaveRingVariables n fs → IsArrangedBasis MonomialOrder.deglex n fs b →
    s.polys.items ≡ polys b.items → length s.marks ≡ n → CoverHeads b.items s.marks → s.basis ≡ Some b → IsStage n s
reduced_stage n fs b s v h e l covers u = record {
  ring = subst (HaveRingVariables n) (sym e) (degree_ring n fs b h);
  long = l;
  spared = λ k m z. subst (AddsNothing n k) (sym e) (adds_nothing n k (polys b.items) b.items m (ring_variables n (polys b.items) (degree_ring n fs b h))
      (degree_own n fs b v h) (λ c i. covers k z c i));
  known = subst (λ (o : Option MarkedPolynomials). IfSome o (IsArrangedBasis MonomialOrder.deglex n s.polys.items)) (sym u)
      (subst (λ (gs : List Terms). IsArrangedBasis MonomialOrder.deglex n gs b) (sym e) (degree_arranged n fs b v h));
}

pub left_stage : (n k : ℕ) (fs : List Terms) (b : MarkedPolynomials) (s : Stage) → k < n → HaveRingVariables n fs →
    IsArrangedBasis (step_order n) (n + 1) (step_list n k fs) b → s.polys.items ≡ left_over n b.items → length s.marks ≡ n → CoverFreeHeads n b.items s.marks →
    s.basis ≡ None → IsStage n s
left_stage n k fs b s i v h e l covers u = record {
  ring = subst (HaveRingVariables n) (sym e) (step_ring n k fs b h);
  long = l;
  spared = λ j m z. subst (AddsNothing n j) (sym e) (step_spared n k j fs b i m v h (λ c t q. covers j m z c t q));
  known = none_known n s u;
}

-- by one variable more
pub way_next : (n : ℕ) (fs : List Terms) (k : ℕ) (gs hs : List Terms) → IsOnTheWay n fs k gs → IsVariableStep n k gs hs ⊎ (AddsNothing n k gs × (hs ≡ gs)) →
    IsOnTheWay n fs (k + 1) hs
way_next n fs k gs hs w h = let e : suc k ≡ k + 1 = omega arith in subst (λ (j : ℕ). IsOnTheWay n fs j hs) e (gs, w, h)

-- ---- the answer

pub saturation_of : (n : ℕ) (fs hs : List Terms) (s : MarkedPolynomials) → HaveRingVariables n fs → IsOnTheWay n fs n hs →
    IsArrangedBasis MonomialOrder.deglex n hs s → IsSaturation n fs s
saturation_of n fs hs s v w b = record {
  variables = b.variables;
  members = λ f. (
    λ m. (saturated_product n fs f).1 ((stands.members f).0 ((degree_members n hs s stands.ring b f).0 m)),
    λ m. (degree_members n hs s stands.ring b f).1 ((stands.members f).1 ((saturated_product n fs f).0 m)),
  );
  reduced = degree_reduced n hs s stands.ring b;
  arranged = b.arranged;
}
  where
    stands : StandsFor n fs n hs
    stands = stands_for n fs n hs (omega arith) v w

-- the sets on the way are in n variables
pub ring_on_the_way : (n : ℕ) (fs : List Terms) (k : ℕ) (hs : List Terms) → k ≤ n → HaveRingVariables n fs → IsOnTheWay n fs k hs → HaveRingVariables n hs
ring_on_the_way n fs k hs l v w = (stands_for n fs k hs l v w).ring

pub way_ring : (n : ℕ) (fs hs : List Terms) → HaveRingVariables n fs → IsOnTheWay n fs n hs → HaveRingVariables n hs
way_ring n fs hs v w = ring_on_the_way n fs n hs (omega arith) v w

-- ---- within limits

memory_alone : (n budget : ℕ) (fs : List Terms) (e : BasisError) → AreStepsWithinLimits n fs budget → IsSaturateRefusal n fs budget e → IsWantOfMemory e
memory_alone n budget fs e w (IsSaturateRefusal.at_step k hs l h r) = r.1 (w.steps k hs l h)
memory_alone n budget fs e w (IsSaturateRefusal.at_end hs h r) = r.1 (w.last hs h)
memory_alone n budget fs e w (IsSaturateRefusal.no_memory m) = m

pub if_memory : {A : Type 0} (n budget : ℕ) (fs : List Terms) (r : Result A BasisError) → AreStepsWithinLimits n fs budget →
    IfErr r (IsSaturateRefusal n fs budget) → IfErr r IsWantOfMemory
if_memory n budget fs (Ok a) w h = tt
if_memory n budget fs (Err e) w h = memory_alone n budget fs e w h
