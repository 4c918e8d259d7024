-- What `_saturation` may do stays within its limits for differences of variables: no variable divides 0 modulo their ideal, so saturating adds nothing, and
-- each set on the way generates it by linear polynomials.
-- To cite: IsGood, linear_of, saturations_of_good, saturations_of_variables. The rest are steps.
use Rattle.std.proofs.Common.{
  ◌≡◌,
  ◌⊎◌,
  ℕ,
  zero,
  suc,
  ◌+◌,
  ◌*◌,
  ◌<◌,
  ◌≤◌,
  true,
  List,
  [],
  ◌∷◌,
  map,
  replicate,
  Contains,
  Some,
  arith,
  refl,
  sym,
  ap,
  ◌∙◌,
  subst,
  inl,
  inr,
}
use Rattle.std.proofs.lemmas.Bool.{cases_lt}
use Rattle.gf_frac.specs.Fraction.{zero_ℚ}
use Rattle.gf_exponents_theory.specs.Exponents.{Exponents, entry, same, plus, degree, weight, IsInRing}
use Rattle.gf_exponents_theory.specs.Orders.{IsWeightedBelow}
use Rattle.gf_exponents_theory.proofs.ExponentsLaws.{plus_assoc, same_trans, same_shift, entries_same, entry-plus}
use Rattle.gf_exponents_theory.proofs.OrderLaws.{weighted-order}
use Rattle.gf_exponents_theory.proofs.WeightLaws.{degree-plus, degree-same}
use Rattle.gf_int_theory.proofs.ListLaws.{Contains-last}
use Rattle.gf_poly.specs.Polynomial.{Terms}
use Rattle.gf_poly.specs.Marking.{MarkedPolynomial, MarkedPolynomials, polys}
use Rattle.gf_ideal_theory.specs.Membership.{HasMonomial, IsInVariables, AreInVariables, IsMember}
use Rattle.gf_ideal_theory.specs.Marks.{AreMarked}
use Rattle.gf_ideal_theory.specs.Reduction.{IsDivisible}
use Rattle.gf_ideal_theory.specs.MonomialOrders.{MonomialOrder}
use Rattle.gf_ideal_theory.specs.Bases.{IsBasis, IsReducedBasisFor}
use Rattle.gf_ideal_theory.proofs.BasisLaws.{basis_of_groebner_for}
use Rattle.gf_ideal_theory.proofs.Identities.{one_not_zero}
use Rattle.gf_ideal_theory.proofs.LawsHold.{marks_have_weights}
use Rattle.gf_ideal_theory.proofs.MarkWeights.{mark-there, IsGradedBy}
use Rattle.gf_ideal_theory.proofs.MembershipLaws.{member-equal, member-generator, variables-equal, variables_of_member}
use Rattle.gf_ideal_theory.proofs.OrderWeights.{IsGrading}
use Rattle.gf_ideal_theory.proofs.PieceLaws.{Contains-marked}
use Rattle.gf_ideal_theory.proofs.RingLaws.{in_ring_of}
use Rattle.gf_ideal_theory.proofs.UniquenessLaws.{apart_same}
use Rattle.gf_buchberger.specs.declared.queue.Strategy.TheVariants as strategies
use Rattle.gf_buchberger.specs.Bases.{IsArrangedBasis}
use Rattle.gf_buchberger.specs.Tasks.{HaveRingVariables}
use Rattle.gf_buchberger.specs.Pairs.{pairs_below}
use Rattle.gf_buchberger.proofs.TaskLaws.{ring_variables}
use Rattle.gf_facets_theory.specs.MarkedBases.{IsMarkedReducedBasis}
use Rattle.gf_bases_theory.proofs.GradedBasisLaws.{IsOfOneClass, basis-graded}
use Rattle.gf_bases_theory.proofs.LawsHold.{reduced_bases_exist}
use Rattle.gf_saturation_theory.specs.Saturations.{AreExtended, AreLeftOver, last_weight}
use Rattle.gf_saturation_theory.proofs.SaturationLaws.{extended_variables}
use Rattle.gf_saturation_theory.proofs.EliminationLaws.{deglex_basis}
use Rattle.gf_saturation_theory.proofs.LawsHold.{saturations_are_eliminations}
use Rattle.gf_saturate.specs.Widening.{widened_term, rabinowitsch_terms, left_over, variable_at}
use Rattle.gf_saturate.specs.Saturating.{AddsNothing, step_order, step_list, IsOnTheWay, AreStepsWithinLimits}
use Rattle.gf_saturate.proofs.WideningLaws.{length-variable}
use Rattle.gf_saturate.proofs.StepLaws.{extended, left_over-are, to_eliminate, reduced_of}
use Rattle.gf_saturate.proofs.SparedLaws.{adds_nothing}
use Rattle.gf_saturate.proofs.StageLaws.{step_generates, by_no_power, ring_on_the_way, way_ring}
use Rattle.gf_binomials_theory.specs.Binomials.{AreBinomials}
use Rattle.gf_binomial_calls_theory.proofs.SaturationLaws.{step_inside, way_on}
use Rattle.gfan_theory.specs.Everyday.{IsDifferenceOfVariables, AreDifferencesOfVariables, SaturationsOfVariablesStayWithinLimits}
use Rattle.gfan_theory.specs.Linear.{IsLinear, AreLinearForms, AreLinearDifferences}
use Rattle.gfan_theory.proofs.CoefficientSums.{sum_of, sum_of_member, sum_of_binomial, sum_of_monomial}
use Rattle.gfan_theory.proofs.LinearRuns.{same_or_not, alone, index_of, index_there, same_indices, none_degree, AreLinearMembers, pairs_mono, linear_ruled_runs}
use Rattle.gfan_theory.proofs.LinearBases.{linear_members}
use Rattle.gfan_theory.proofs.SaturationRuns.{shape_of_relation, widened_forms, run_stays_within}
use Rattle.gfan_theory.proofs.VariableLaws.{either}

-- ---- the weight 1 of each of n variables but that at index k

abbrev others : ℕ → ℕ → List ℕ
others zero k = []
others (suc n) zero = 0 ∷ replicate n 1
others (suc n) (suc k) = 1 ∷ others n k

ones_most : (n i : ℕ) (x : Exponents) → i < n → entry x i ≤ weight (replicate n 1) x
ones_most zero i x l = absurd (omega (arith, l))
ones_most (suc n) i [] l = omega arith
ones_most (suc n) zero (a ∷ x) l = omega arith
ones_most (suc n) (suc i) (a ∷ x) l = let p = ones_most n i x (omega (arith, l)) in omega (arith, p)

others_most : (n k i : ℕ) (x : Exponents) → i < n → (i ≡ k → ⊥) → entry x i ≤ weight (others n k) x
others_most zero k i x l o = absurd (omega (arith, l))
others_most (suc n) zero i [] l o = omega arith
others_most (suc n) (suc k) i [] l o = omega arith
others_most (suc n) zero zero (a ∷ x) l o = absurd (o refl)
others_most (suc n) zero (suc i) (a ∷ x) l o = let p = ones_most n i x (omega (arith, l)) in omega (arith, p)
others_most (suc n) (suc k) zero (a ∷ x) l o = omega arith
others_most (suc n) (suc k) (suc i) (a ∷ x) l o =
    let p = others_most n k i x (omega (arith, l)) (λ e. o (ap suc e)) in
    omega (arith, p)

ones_none : (n : ℕ) (x : Exponents) → ((i : ℕ) → entry x i ≡ 0) → weight (replicate n 1) x ≡ 0
ones_none zero x z = refl
ones_none (suc n) [] z = refl
ones_none (suc n) (a ∷ x) z = let p : a ≡ 0 = z 0 in let q = ones_none n x (λ i. z (suc i)) in omega (arith, p, q)

others_none : (n k : ℕ) (x : Exponents) → ((i : ℕ) → (i ≡ k → ⊥) → entry x i ≡ 0) → weight (others n k) x ≡ 0
others_none zero k x z = refl
others_none (suc n) zero [] z = refl
others_none (suc n) (suc k) [] z = refl
others_none (suc n) zero (a ∷ x) z = let p = ones_none n x (λ i. z (suc i) (λ e. omega (arith, e))) in omega (arith, p)
others_none (suc n) (suc k) (a ∷ x) z =
    let p : a ≡ 0 = z 0 (λ e. omega (arith, e)) in
    let q = others_none n k x (λ i o. z (suc i) (λ e. o (omega (arith, e)))) in
    omega (arith, p, q)

-- ---- linear generators whose coefficients have the sum 0

pub record IsGood (n : ℕ) (gs : List Terms) : Type 0 where
  pub forms : AreLinearForms n gs
  pub sums : (g : Terms) → Contains gs g → sum_of g ≡ zero_ℚ

-- a reduced basis for a weight before lex
module _ (n : ℕ) (gs : List Terms) (w : List ℕ) (g : IsGood n gs) where
  basis_of : (bs : List MarkedPolynomial) × IsMarkedReducedBasis n gs bs × IsReducedBasisFor n gs (IsWeightedBelow w) bs
  basis_of = reduced_bases_exist.for_weight n gs w g.forms.variables

  members_of : AreLinearMembers basis_of.0
  members_of = linear_members (MonomialOrder.weighted w) n gs tt g.forms basis_of.0 basis_of.1.reduced.basis basis_of.2.basis.marked basis_of.1.reduced.tails
      basis_of.1.reduced.heads

-- ---- saturating by a variable adds nothing

module _ (n k : ℕ) (gs : List Terms) (l : k < n) (g : IsGood n gs) where
  abbrev ws : List ℕ
  ws = others n k

  abbrev rs : List MarkedPolynomial
  rs = (basis_of n gs (others n k) g).0

  marked : AreMarked (IsWeightedBelow ws) rs
  marked = (basis_of n gs (others n k) g).2.basis.marked

  reduced : IsMarkedReducedBasis n gs rs
  reduced = (basis_of n gs (others n k) g).1

  linear : AreLinearMembers rs
  linear = members_of n gs (others n k) g

  -- a member with this variable as its mark has no other monomial
  single : (b : MarkedPolynomial) → Contains rs b → 1 ≤ entry b.head k → (y : Exponents) → HasMonomial b.poly y → same y b.head ≡ true
  single b c one y m = at ((marked b c).tail y m)
    where
      head_light : weight ws b.head ≡ 0
      head_light = others_none n k b.head (λ i o. alone b.head k i (linear.heads b c) one o)

      inside : IsInRing n y
      inside = variables_of_member n gs b.poly g.forms.variables (reduced.reduced.basis.members b c) y m

      some : 1 ≤ entry y (index_of y)
      some = index_there y (linear.within b c y m)

      light : weight ws y ≡ 0 → (index_of y ≡ k) ⊎ (index_of y ≡ k → ⊥) → (index_of y < n) ⊎ (n ≤ index_of y) → same y b.head ≡ true
      light z (inl e) s =
          same_indices y b.head k (linear.within b c y m) (linear.heads b c) (subst (λ (i : ℕ). 1 ≤ entry y i) e some) one
      light z (inr o) (inl i) =
          absurd (let a = others_most n k (index_of y) y i o in let p = some in omega (arith, a, z, p))
      light z (inr o) (inr i) = absurd (let a = inside (index_of y) i in let p = some in omega (arith, a, p))

      at : (same y b.head ≡ true) ⊎ IsWeightedBelow ws y b.head → same y b.head ≡ true
      at (inl s) = s
      at (inr (inl less)) = absurd (let h = head_light in omega (arith, less, h))
      at (inr (inr e)) = light (e.0 ∙ head_light) (same_or_not (index_of y) k) (cases_lt (index_of y) n)

  no_head : (b : MarkedPolynomial) → Contains rs b → entry b.head k ≡ 0
  no_head b c = at (same_or_not (entry b.head k) 0)
    where
      some : (a : ℕ) → (a ≡ 0 → ⊥) → 1 ≤ a
      some zero o = absurd (o refl)
      some (suc a) o = omega arith

      at : (entry b.head k ≡ 0) ⊎ (entry b.head k ≡ 0 → ⊥) → entry b.head k ≡ 0
      at (inl z) = z
      at (inr o) = absurd (one_not_zero (sym (sum_of_monomial b.poly b.head (marked b c).monic (single b c (some (entry b.head k) o)))
          ∙ sum_of_member n gs b.poly g.sums (reduced.reduced.basis.members b c)))

  adds : AddsNothing n k gs
  adds = adds_nothing n k gs rs l g.forms.variables reduced.reduced.basis no_head

-- ---- the grade by which t*x - 1 is homogeneous too: the degree, with -1 for the variable t after the first n

abbrev AreAlike : ℕ → Exponents → Exponents → Type 0
AreAlike n x y = degree x + 2 * entry y n ≡ degree y + 2 * entry x n

alike-grading : (n : ℕ) → IsGrading (AreAlike n)
alike-grading n = record {
  decide = λ x y. same_or_not (degree x + 2 * entry y n) (degree y + 2 * entry x n);
  along = λ x y s. let d = degree-same x y s in let e = entries_same x y s n in omega (arith, d, e);
  symmetric = λ x y h. omega (arith, h);
  transitive = λ x y z h k. omega (arith, h, k);
  invariant = λ z x y h.
      let a = degree-plus z x in
      let b = degree-plus z y in
      let c = entry-plus z x n in
      let d = entry-plus z y n in
      omega (arith, a, b, c, d, h);
}

-- ---- one step

module _ (n k : ℕ) (gs : List Terms) (l : k < n) (v : HaveRingVariables n gs) (g : IsGood n gs) (s : MarkedPolynomials)
    (is_basis : IsArrangedBasis (step_order n) (n + 1) (step_list n k gs) s) where
  abbrev u : Exponents
  u = variable_at n k

  abbrev fs : List Terms
  fs = step_list n k gs

  abbrev qs : List MarkedPolynomial
  qs = (basis_of n gs (last_weight n) g).0

  its_reduced : IsReducedBasisFor (suc n) fs (IsWeightedBelow (last_weight n)) s.items
  its_reduced = reduced_of n fs s is_basis

  are_extended : AreExtended n u gs fs
  are_extended = extended n u gs (length-variable n k l)

  its_variables : AreInVariables (suc n) fs
  its_variables = extended_variables n u gs fs (in_ring_of n u (length-variable n k l)) g.forms.variables are_extended

  its_basis : IsBasis (suc n) fs s.items
  its_basis = basis_of_groebner_for (suc n) fs s.items (IsWeightedBelow (last_weight n)) (weighted-order (last_weight n))
      (marks_have_weights.by_weighted (suc n) (last_weight n) s.items its_reduced.basis.marked) its_reduced.basis

  -- each generator is homogeneous by that grade
  alike : (f : Terms) → Contains fs f → IsOfOneClass (AreAlike n) f
  alike f c x y p q = at (Contains-last (map (map widened_term) gs) (rabinowitsch_terms u) f c)
    where
      forms : AreLinearForms n (map (map widened_term) gs)
      forms = widened_forms n gs g.forms

      at : Contains (map (map widened_term) gs) f ⊎ (f ≡ rabinowitsch_terms u) → AreAlike n x y
      at (inl i) =
          let a = forms.linear f i x p in
          let b = forms.linear f i y q in
          let e = forms.variables f i x p n (omega arith) in
          let h = forms.variables f i y q n (omega arith) in
          omega (arith, a, b, e, h)
      at (inr e) =
          let a = (shape_of_relation n k l x (subst (λ (z : Terms). HasMonomial z x) e p)).0 in
          let b = (shape_of_relation n k l y (subst (λ (z : Terms). HasMonomial z y) e q)).0 in
          omega (arith, a, b)

  -- a member without t that is in the ideal of gs is linear
  linear_left : (b : MarkedPolynomial) → Contains s.items b → IsInVariables n b.poly → IsMember n gs b.poly → IsLinear b.poly
  linear_left b c inside m y h =
      let p = graded y h in
      let q = inside y h n (omega arith) in
      let r = inside b.head there n (omega arith) in
      let o = one in
      omega (arith, p, q, r, o)
    where
      there : HasMonomial b.poly b.head
      there = mark-there (IsWeightedBelow (last_weight n)) b (its_reduced.basis.marked b c)

      known : IsReducedBasisFor n gs (IsWeightedBelow (last_weight n)) qs
      known = (basis_of n gs (last_weight n) g).2

      -- its mark is a multiple of a variable
      t : IsDivisible (Contains qs) b.head
      t = known.basis.initial b.poly m b.head (record { there = there; greatest = λ z o. (its_reduced.basis.marked b c).tail z o })

      -- which is a multiple of a mark
      e : IsDivisible (Contains s.items) t.member.head
      e = its_reduced.basis.initial t.member.poly
          (saturations_are_eliminations.to n u gs fs t.member.poly (in_ring_of n u (length-variable n k l)) g.forms.variables are_extended
          (by_no_power n u gs t.member.poly (known.basis.members t.member t.contained)))
          t.member.head
          (record {
            there = mark-there (IsWeightedBelow (last_weight n)) t.member (known.basis.marked t.member t.contained);
            greatest = λ z o. (known.basis.marked t.member t.contained).tail z o;
          })

      whole : same b.head (plus (plus t.rest e.rest) e.member.head) ≡ true
      whole = subst (λ (z : Exponents). same b.head z ≡ true) (sym (plus_assoc t.rest e.rest e.member.head))
          (same_trans b.head (plus t.rest t.member.head) (plus t.rest (plus e.rest e.member.head)) t.divides
          (same_shift t.rest t.member.head (plus e.rest e.member.head) e.divides))

      -- of its own
      itself : e.member ≡ b
      itself = apart_same s.items e.member b its_reduced.heads e.contained c (plus t.rest e.rest) whole

      back : same t.member.head (plus e.rest b.head) ≡ true
      back = subst (λ (z : MarkedPolynomial). same t.member.head (plus e.rest z.head) ≡ true) itself e.divides

      one : degree b.head ≡ 1
      one =
          let a1 = degree-same b.head (plus t.rest t.member.head) t.divides in
          let a2 = degree-plus t.rest t.member.head in
          let a3 = degree-same t.member.head (plus e.rest b.head) back in
          let a4 = degree-plus e.rest b.head in
          let a5 = (members_of n gs (last_weight n) g).heads t.member t.contained in
          omega (arith, a1, a2, a3, a4, a5)

      graded : IsGradedBy (AreAlike n) b
      graded = basis-graded (suc n) fs (AreAlike n) s.items b (alike-grading n) its_variables alike its_reduced.basis.members its_basis.decides
          its_reduced.tails c

  left : AreLeftOver n s.items (left_over n s.items)
  left = left_over-are n s.items s.items (to_eliminate n fs s is_basis) (λ c m. m)

  -- what is left is in the ideal of gs
  inside : (h : Terms) → Contains (left_over n s.items) h → IsMember n gs h
  inside h c = adds n k gs l g h ((step_generates n k gs s l v is_basis h).0 (member-generator n (left_over n s.items) h c))

  left_good : IsGood n (left_over n s.items)
  left_good = record {
    forms = record {
      variables = λ h c. let m = left.only h c in variables-equal n m.0.poly h m.3 m.2;
      linear = λ h c x y. let m = left.only h c in
          linear_left m.0 m.1 m.2 (member-equal n gs h m.0.poly (λ e. sym (m.3 e)) (inside h c)) x (λ z. y (sym (m.3 x) ∙ z));
    };
    sums = λ h c. sum_of_member n gs h g.sums (inside h c);
  }

-- ---- the sets on the way

degree_good : (n : ℕ) (fs : List Terms) (s : MarkedPolynomials) → IsGood n fs → IsArrangedBasis MonomialOrder.deglex n fs s → IsGood n (polys s.items)
degree_good n fs s g b = record {
  forms = record {
    variables = λ f c. let m = Contains-marked s.items f c in
        subst (IsInVariables n) m.2 (variables_of_member n fs m.0.poly g.forms.variables (b.inside m.0 m.1));
    linear = λ f c. let m = Contains-marked s.items f c in subst IsLinear m.2 (members.within m.0 m.1);
  };
  sums = λ f c. let m = Contains-marked s.items f c in
      subst (λ (z : Terms). sum_of z ≡ zero_ℚ) m.2 (sum_of_member n fs m.0.poly g.sums (b.inside m.0 m.1));
}
  where
    members : AreLinearMembers s.items
    members = linear_members MonomialOrder.deglex n fs tt g.forms s.items (deglex_basis n fs s.items b.reduced) b.marked b.reduced.tails b.reduced.heads

way_good : (n : ℕ) (fs : List Terms) (k : ℕ) (hs : List Terms) → k ≤ n → HaveRingVariables n fs → IsGood n fs → IsOnTheWay n fs k hs → IsGood n hs
way_good n fs zero hs l v g (inl e) = subst (IsGood n) (sym e) g
way_good n fs zero hs l v g (inr (s, b, e)) = subst (IsGood n) (sym e) (degree_good n fs s g b)
way_good n fs (suc k) hs l v g (gs, w, inl s) =
    subst (IsGood n) (sym s.is)
    (left_good n k gs (omega (arith, l)) (ring_on_the_way n fs k gs (omega (arith, l)) v w) (way_good n fs k gs (omega (arith, l)) v g w) s.basis s.is_basis)
way_good n fs (suc k) hs l v g (gs, w, inr (a, e)) = subst (IsGood n) (sym e) (way_good n fs k gs (omega (arith, l)) v g w)

-- ---- differences of variables

variable_degree : (i : ℕ) (x : Exponents) → entry x i ≡ 1 → ((k : ℕ) → (k ≡ i → ⊥) → entry x k ≡ 0) → degree x ≡ 1
variable_degree i [] e z = absurd (omega (arith, e))
variable_degree zero (a ∷ x) e z = let q = none_degree x (λ k. z (suc k) (λ p. omega (arith, p))) in omega (arith, e, q)
variable_degree (suc i) (a ∷ x) e z =
    let p : a ≡ 0 = z 0 (λ o. omega (arith, o)) in
    let q = variable_degree i x e (λ k o. z (suc k) (λ r. o (omega (arith, r)))) in
    omega (arith, p, q)

difference_linear : (n : ℕ) (f : Terms) → IsDifferenceOfVariables n f → IsLinear f
difference_linear n f d x m = at (either n f d x m)
  where
    at : (same x d.left ≡ true) ⊎ (same x d.right ≡ true) → degree x ≡ 1
    at (inl s) = degree-same x d.left s ∙ variable_degree d.first d.left d.is_left.one d.is_left.others
    at (inr s) = degree-same x d.right s ∙ variable_degree d.second d.right d.is_right.one d.is_right.others

pub linear_of : (n : ℕ) (fs : List Terms) → HaveRingVariables n fs → AreDifferencesOfVariables n fs → AreLinearDifferences n fs
linear_of n fs v ds = record {
  forms = record { variables = ring_variables n fs v; linear = λ f c. difference_linear n f (ds f c) };
  binomials = λ f c. let d = ds f c in record { first = Some d.left; second = Some d.right; binomial = d.binomial };
}

-- ---- the sets on the way, from such generators

pub saturations_of_good : (n : ℕ) (fs : List Terms) (budget : ℕ) → HaveRingVariables n fs → IsGood n fs → AreBinomials fs → pairs_below (n + 1) ≤ budget →
    AreStepsWithinLimits n fs budget
saturations_of_good n fs budget v good two room = record {
  steps = λ k hs l w. run_stays_within strategies.Degree n k hs l (ring_on_the_way n fs k hs (omega (arith, l)) v w)
      (way_good n fs k hs (omega (arith, l)) v good w).forms budget
      (step_inside n k hs l (way_on n fs k hs (omega (arith, l)) (ring_variables n fs v) two w)).binomials room;
  last = λ hs w. linear_ruled_runs strategies.Degree MonomialOrder.deglex n hs budget tt (way_ring n fs hs v w)
      (record {
        forms = (way_good n fs n hs (omega arith) v good w).forms;
        binomials = (way_on n fs n hs (omega arith) (ring_variables n fs v) two w).binomials;
      })
      (let p = pairs_mono n (n + 1) (omega arith) in omega (arith, p, room));
}

pub saturations_of_variables : SaturationsOfVariablesStayWithinLimits
saturations_of_variables n fs budget v ds room = saturations_of_good n fs budget v (record {
  forms = (linear_of n fs v ds).forms;
  sums = λ f c. let d = ds f c in sum_of_binomial d.left d.right f d.binomial;
}) (linear_of n fs v ds).binomials room
