-- The test whether differences of variables are a tropical basis stays within its limits: their prevariety is a linear space, on which all weights of a member
-- of a basis are the same. So each cone of the prevariety is one with its part in the closed cone of a basis, which has no rays, and the initial forms there
-- are the members of the basis.
-- To cite: basis_tests_of_differences. The rest are steps.
use Rattle.std.proofs.Common.{
  ◌≡◌,
  ◌≢◌,
  ◌⊎◌,
  ℕ,
  zero,
  suc,
  ◌+◌,
  ◌<◌,
  ◌≤◌,
  ◌^◌,
  Bool,
  true,
  false,
  if◌then◌else◌,
  List,
  [],
  ◌∷◌,
  ◌++◌,
  length,
  get_or,
  map,
  replicate,
  Some,
  ℤ,
  pos,
  negsuc,
  neg_ℤ,
  ◌+ℤ◌,
  ◌-ℤ◌,
  ◌*ℤ◌,
  ◌<ℤ◌,
  ◌≤ℤ◌,
  unsigned_abs,
  arith,
  refl,
  sym,
  ap,
  ap₂,
  ◌∙◌,
  subst,
  inl,
  inr,
  All,
  Contains,
}
use Rattle.std.proofs.lemmas.Int.{ints}
use Rattle.std.proofs.lemmas.List.Elements.{All-nil, All-contains, Contains-append_left, Contains-append_cases, All-cons, All-replicate}
use Rattle.gf_frac.specs.Fraction.{◌+ℚ◌, neg_ℚ, zero_ℚ, one_ℚ}
use Rattle.gf_frac.proofs.FractionLaws.{+ℚ-zero, +ℚ-neg_ℚ, +ℚ_comm, zero-+ℚ}
use Rattle.gf_int_theory.proofs.ListLaws.{Contains-here, all_by}
use Rattle.gf_int_theory.proofs.SignLaws.{equal_or_not}
use Rattle.gf_exponents_theory.specs.Exponents.{Exponents, entry, same, plus, whole_weight}
use Rattle.gf_exponents_theory.specs.SixOrders.{MonomialOrder}
use Rattle.gf_exponents_theory.proofs.WholeWeightLaws.{whole_weight-same}
use Rattle.gf_facets_theory.proofs.WholeLaws.{weight-product}
use Rattle.gf_vec.specs.Vector.{dot, zeros}
use Rattle.gf_vec.specs.Steps.{NoneWide}
use Rattle.gf_order.specs.Weights.{AreBounded}
use Rattle.gf_gordan.specs.Alternative.{AreRows}
use Rattle.gf_gordan.specs.Sizes.{HaveEntriesUpTo}
use Rattle.gf_poly.specs.declared.Term.{Term}
use Rattle.gf_poly.specs.InitialForms.{IsInitialForm}
use Rattle.gf_poly.specs.Polynomial.{Terms, HasVariables, SamePolynomial}
use Rattle.gf_poly.specs.Marking.{MarkedPolynomial, MarkedPolynomials, polys}
use Rattle.gf_ideal_theory.specs.Membership.{HasMonomial, AreInVariables}
use Rattle.gf_ideal_theory.proofs.OrderWeights.{IsGrading}
use Rattle.gf_ideal_theory.proofs.PieceLaws.{Contains-marked}
use Rattle.gf_ideal_theory.proofs.MembershipLaws.{variables_of_member}
use Rattle.gf_bases_theory.proofs.GradedBasisLaws.{basis-graded}
use Rattle.gf_buchberger.specs.Tasks.{HaveRingVariables}
use Rattle.gf_buchberger.specs.Pairs.{pairs_below}
use Rattle.gf_buchberger.specs.declared.queue.Strategy.TheVariants.{Degree}
use Rattle.gf_buchberger.proofs.TaskLaws.{ring_variables}
use Rattle.gf_duality_theory.specs.Faces.{Rows, IsInCone, sum_of}
use Rattle.gf_duality_theory.proofs.ListLaws.{none_in, in_tail, in_cons}
use Rattle.gf_duality_theory.proofs.Determined.{described_of}
use Rattle.gf_duality_theory.proofs.Implied.{ray_in}
use Rattle.gf_fans_theory.proofs.FanLaws.{up_in, zero_in}
use Rattle.gf_fans_theory.specs.FaceLists.{numbered}
use Rattle.gf_fans_theory.proofs.PartNumbers.{in_map, of_map}
use Rattle.gf_rays.specs.Cones.{RowsAndRays, rows_of, AreRaysWithinLimits}
use Rattle.gf_rays.specs.Faces.{AreFaces}
use Rattle.gf_rays.specs.Limits.{has_room}
use Rattle.gf_rays.specs.Sums.{adding_steps}
use Rattle.gf_rays.specs.declared.faces.Face.{Face}
use Rattle.gf_fan.specs.declared.cones.FanCone.{FanCone}
use Rattle.gf_fan.specs.FanLists.{FanLists}
use Rattle.gf_fan.specs.MaximalCones.{maximal_of}
use Rattle.gf_fan.proofs.UnderMaximal.{maximal_some}
use Rattle.gf_patterns_theory.specs.Patterns.{points, IsHighest, IsOnHypersurface, IsClosedConeOf, IsOnPrevariety}
use Rattle.gf_patterns_theory.specs.PatternRows.{vector_difference}
use Rattle.gf_patterns_theory.proofs.RowLaws.{minus_long, dot_minus}
use Rattle.gf_cuts.specs.Drawn.{HasRow}
use Rattle.gf_tropical.specs.DifferenceRows.{IsDifferenceIn}
use Rattle.gf_tropical.specs.Limits.{terms_but, PolynomialsWithRoomStayWithinLimits}
use Rattle.gf_facets_theory.specs.Systems.{unit}
use Rattle.gf_facets_theory.specs.Normals.{AreNormals}
use Rattle.gf_facets_theory.specs.Rows.{IsNormal}
use Rattle.gf_facets_theory.specs.Regions.{all_positive}
use Rattle.gf_facets_theory.specs.MarkedBases.{IsBasisInRegion}
use Rattle.gf_facets_theory.proofs.UnitLaws.{length-unit, dot-unit}
use Rattle.gf_reverse_theory.specs.Upward.{IsNodeIn}
use Rattle.gf_tree.specs.Ideals.{ideal_by}
use Rattle.gf_initial_theory.specs.Parts.{IsInitialPart}
use Rattle.gf_initial_theory.proofs.MatchingLaws.{matched-from}
use Rattle.gf_saturate.specs.Saturating.{AreStepsWithinLimits}
use Rattle.gf_saturate.specs.Widening.{variable_at}
use Rattle.gf_saturate.proofs.WideningLaws.{length-variable}
use Rattle.gf_binomials_theory.specs.Binomials.{IsBinomialOf, IsMarkedBinomial}
use Rattle.gf_binomials_theory.proofs.BinomialLaws.{binomial-marked}
use Rattle.gf_binomial_bases_theory.proofs.LawsHold.{bases_of_binomials}
use Rattle.gf_binomial_calls_theory.proofs.InitialLaws.{forms_at_binomials, forms_at_variables}
use Rattle.gf_initial_monomials.specs.Outcomes.{AreKeptFormsAt, IsCutBy, vector_of}
use Rattle.gf_initial_monomials.specs.Limits.{IsFaceWithinLimits, AreFacesWithinLimits}
use Rattle.gf_initial_monomials.proofs.FaceLaws.{face_numbers}
use Rattle.gf_tropical_basis_test.specs.Verdicts.{IsTestFan, maximal_rows}
use Rattle.gf_tropical_basis_test.specs.Limits.{IsTestWithinLimits}
use Rattle.gfan_theory.specs.BasisTests.{plus_variable, minus_variable, IsKeptDifference, BasisTestsOfDifferencesStayWithinLimits}
use Rattle.gfan_theory.specs.Differences.{IsDifferenceRow, AreDifferenceRows}
use Rattle.gfan_theory.specs.Everyday.{IsVariable, IsDifferenceOfVariables, AreDifferencesOfVariables}
use Rattle.gfan_theory.specs.Linear.{AreLinearDifferences}
use Rattle.gfan_theory.proofs.CoefficientSums.{sum_same, sum_of_member, sum_of_binomial}
use Rattle.gfan_theory.proofs.DifferenceLimits.{rows_small}
use Rattle.gfan_theory.proofs.LinearBases.{region_members}
use Rattle.gfan_theory.proofs.LinearLimits.{search_within}
use Rattle.gfan_theory.proofs.LinearNormals.{IsLinearNormal, normal_at, variable_at as variable_at_index, linear_normals}
use Rattle.gfan_theory.proofs.LinearRuns.{AreLinearMembers, index_of, pairs_mono, linear_ruled_runs}
use Rattle.gfan_theory.proofs.RepeatedRows.{IsAlongOne, has_far_room, repeated_rows_fit}
use Rattle.gfan_theory.proofs.SaturationLimits.{IsGood, linear_of, saturations_of_good}
use Rattle.gfan_theory.proofs.VariableLaws.{either, variable_weight}

-- ---- variables

none_there : (n k : ℕ) → entry (replicate n 0) k ≡ 0
none_there zero k = refl
none_there (suc n) zero = refl
none_there (suc n) (suc k) = none_there n k

one_there : (n i : ℕ) → i < n → entry (variable_at n i) i ≡ 1
one_there zero i l = absurd (omega (arith, l))
one_there (suc n) zero l = refl
one_there (suc n) (suc i) l = one_there n i (omega (arith, l))

none_beside : (n i k : ℕ) → (k ≡ i → ⊥) → entry (variable_at n i) k ≡ 0
none_beside zero i k o = refl
none_beside (suc n) zero zero o = absurd (o refl)
none_beside (suc n) zero (suc k) o = none_there n k
none_beside (suc n) (suc i) zero o = refl
none_beside (suc n) (suc i) (suc k) o = none_beside n i k (λ e. o (ap suc e))

is_variable : (n i : ℕ) → i < n → IsVariable i (variable_at n i)
is_variable n i l = record { one = one_there n i l; others = λ k o. none_beside n i k o }

-- as a point it is a unit vector
no_point : (n : ℕ) → map pos (replicate n 0) ≡ zeros n
no_point zero = refl
no_point (suc n) = ap (λ (z : List ℤ). pos 0 ∷ z) (no_point n)

point_is : (n i : ℕ) → map pos (variable_at n i) ≡ unit n i
point_is zero i = refl
point_is (suc n) zero = ap (λ (z : List ℤ). pos 1 ∷ z) (no_point n)
point_is (suc n) (suc i) = ap (λ (z : List ℤ). pos 0 ∷ z) (point_is n i)

small_exponents : (n i : ℕ) → All (λ e. e ≤ 1) (variable_at n i)
small_exponents zero i = All-nil (λ (e : ℕ). e ≤ 1)
small_exponents (suc n) zero = All-cons (λ (e : ℕ). e ≤ 1) 1 (replicate n 0) (omega arith) (All-replicate (λ (e : ℕ). e ≤ 1) n 0 (omega arith))
small_exponents (suc n) (suc i) = All-cons (λ (e : ℕ). e ≤ 1) 0 (variable_at n i) (omega arith) (small_exponents n i)

-- ---- the generators

bit : (b : Bool) → (if b then neg_ℚ one_ℚ else zero_ℚ) +ℚ zero_ℚ ≡ neg_ℚ (if b then one_ℚ else zero_ℚ)
bit true = +ℚ-zero (neg_ℚ one_ℚ)
bit false = +ℚ-zero zero_ℚ ∙ sym (sym (zero-+ℚ (neg_ℚ zero_ℚ)) ∙ +ℚ-neg_ℚ zero_ℚ)

plus_first : (a b : Bool) → (if a then one_ℚ else zero_ℚ) +ℚ ((if b then neg_ℚ one_ℚ else zero_ℚ) +ℚ zero_ℚ) ≡
    (if a then one_ℚ else zero_ℚ) +ℚ neg_ℚ (if b then one_ℚ else zero_ℚ)
plus_first a b = ap (λ z. (if a then one_ℚ else zero_ℚ) +ℚ z) (bit b)

minus_first : (a b : Bool) → (if b then neg_ℚ one_ℚ else zero_ℚ) +ℚ ((if a then one_ℚ else zero_ℚ) +ℚ zero_ℚ) ≡
    (if a then one_ℚ else zero_ℚ) +ℚ neg_ℚ (if b then one_ℚ else zero_ℚ)
minus_first a b =
    ap (λ z. (if b then neg_ℚ one_ℚ else zero_ℚ) +ℚ z) (+ℚ-zero (if a then one_ℚ else zero_ℚ))
    ∙ +ℚ_comm (if b then neg_ℚ one_ℚ else zero_ℚ) (if a then one_ℚ else zero_ℚ)
    ∙ ap (λ z. (if a then one_ℚ else zero_ℚ) +ℚ z) (sym (+ℚ-zero (if b then neg_ℚ one_ℚ else zero_ℚ)) ∙ bit b)

module _ (n : ℕ) (f : Terms) (d : IsKeptDifference n f) where
  abbrev left : Exponents
  left = variable_at n d.first

  abbrev right : Exponents
  right = variable_at n d.second

  binomial_of : IsBinomialOf (Some left) (Some right) f
  binomial_of = elim d.is [
    | inl e ↦ subst (IsBinomialOf (Some left) (Some right)) (sym e) (record { equation = λ x. plus_first (same x left) (same x right) })
    | inr e ↦ subst (IsBinomialOf (Some left) (Some right)) (sym e) (record { equation = λ x. minus_first (same x left) (same x right) })
  ]

  abbrev difference_of : IsDifferenceOfVariables n f
  difference_of = record {
    first = d.first;
    second = d.second;
    first_inside = d.first_inside;
    second_inside = d.second_inside;
    apart = d.apart;
    left = left;
    right = right;
    is_left = is_variable n d.first d.first_inside;
    is_right = is_variable n d.second d.second_inside;
    binomial = binomial_of;
  }

  in_ring : HasVariables n f
  in_ring =
      let p = length-variable n d.first d.first_inside in
      let q = length-variable n d.second d.second_inside in
      elim d.is [ inl e ↦ subst (HasVariables n) (sym e) (p, (q, tt)) | inr e ↦ subst (HasVariables n) (sym e) (q, (p, tt)) ]

  not_none : f ≢ []
  not_none q = elim d.is [ inl e ↦ (let k = ap length (sym e ∙ q) in omega (arith, k)) | inr e ↦ (let k = ap length (sym e ∙ q) in omega (arith, k)) ]

  two_long : length f ≡ 2
  two_long = elim d.is [ inl e ↦ ap length e | inr e ↦ ap length e ]

  -- its points
  point_cases : (x : List ℤ) → Contains (points f) x → (x ≡ unit n d.first) ⊎ (x ≡ unit n d.second)
  point_cases x c = elim d.is [
    | inl e ↦ elim (in_cons (map pos left) (map pos right ∷ []) x (subst (λ (g : Terms). Contains (points g) x) e c)) [
      | inl q ↦ inl (q ∙ point_is n d.first)
      | inr k ↦ elim (in_cons (map pos right) [] x k) [ inl q ↦ inr (q ∙ point_is n d.second) | inr o ↦ absurd (none_in x o) ]
    ]
    | inr e ↦ elim (in_cons (map pos right) (map pos left ∷ []) x (subst (λ (g : Terms). Contains (points g) x) e c)) [
      | inl q ↦ inr (q ∙ point_is n d.second)
      | inr k ↦ elim (in_cons (map pos left) [] x k) [ inl q ↦ inl (q ∙ point_is n d.first) | inr o ↦ absurd (none_in x o) ]
    ]
  ]

  exponents_small : All (λ (t : Term). All (λ e. e ≤ 1) t.mono) f
  exponents_small = elim d.is [
    | inl e ↦ subst (All (λ (t : Term). All (λ x. x ≤ 1) t.mono)) (sym e) (pair (plus_variable n d.first) (minus_variable n d.second)
        (small_exponents n d.first) (small_exponents n d.second))
    | inr e ↦ subst (All (λ (t : Term). All (λ x. x ≤ 1) t.mono)) (sym e) (pair (minus_variable n d.second) (plus_variable n d.first)
        (small_exponents n d.second) (small_exponents n d.first))
  ]
    where
      pair : (t u : Term) → All (λ x. x ≤ 1) t.mono → All (λ x. x ≤ 1) u.mono → All (λ (s : Term). All (λ x. x ≤ 1) s.mono) (t ∷ u ∷ [])
      pair t u a b = all_by (λ (s : Term). All (λ x. x ≤ 1) s.mono) (t ∷ u ∷ []) (λ s c. elim (in_cons t (u ∷ []) s c) [
        | inl e ↦ subst (λ (z : Term). All (λ x. x ≤ 1) z.mono) (sym e) a
        | inr k ↦ elim (in_cons u [] s k) [ inl e ↦ subst (λ (z : Term). All (λ x. x ≤ 1) z.mono) (sym e) b | inr o ↦ absurd (none_in s o) ]
      ])

  -- at a vector where both are highest, these entries are the same
  level_at : (w v : List ℤ) → length v ≡ n → IsOnHypersurface (points f) w → ((s : List ℤ) → IsHighest (points f) w s → IsHighest (points f) v s) →
      get_or v d.first (pos 0) ≡ get_or v d.second (pos 0)
  level_at w v l o to = elim (point_cases o.one o.first.listed) [
    | inl p ↦ elim (point_cases o.two o.second.listed) [
      | inl q ↦ absurd (o.other (p ∙ sym q))
      | inr q ↦ level (unit n d.first) (unit n d.second) (get_or v d.first (pos 0)) (get_or v d.second (pos 0)) p q (dot-unit n d.first v d.first_inside l)
          (dot-unit n d.second v d.second_inside l)
    ]
    | inr p ↦ elim (point_cases o.two o.second.listed) [
      | inr q ↦ absurd (o.other (p ∙ sym q))
      | inl q ↦ sym (level (unit n d.second) (unit n d.first) (get_or v d.second (pos 0)) (get_or v d.first (pos 0)) p q
          (dot-unit n d.second v d.second_inside l) (dot-unit n d.first v d.first_inside l))
    ]
  ]
    where
      level : (a b : List ℤ) (x y : ℤ) → o.one ≡ a → o.two ≡ b → dot a v ≡ x → dot b v ≡ y → x ≡ y
      level a b x y p q e g =
          let h = to o.one o.first in
          let k = to o.two o.second in
          let up : dot b v ≤ℤ dot a v =
          subst (λ (z : List ℤ). dot z v ≤ℤ dot a v) q (subst (λ (z : List ℤ). dot o.two v ≤ℤ dot z v) p (h.highest o.two k.listed)) in
          let down : dot a v ≤ℤ dot b v =
          subst (λ (z : List ℤ). dot z v ≤ℤ dot b v) p (subst (λ (z : List ℤ). dot o.one v ≤ℤ dot z v) q (k.highest o.one h.listed)) in
          omega (arith, ints, up, down, e, g)

-- ---- rows among few, up to sign

abbrev first_of_three : List ℤ
first_of_three = pos 1 ∷ negsuc 0 ∷ pos 0 ∷ []

abbrev second_of_three : List ℤ
second_of_three = pos 1 ∷ pos 0 ∷ negsuc 0 ∷ []

abbrev third_of_three : List ℤ
third_of_three = pos 0 ∷ pos 1 ∷ negsuc 0 ∷ []

abbrev one_of_two_rows : List ℤ
one_of_two_rows = pos 1 ∷ negsuc 0 ∷ []

-- the differences of two entries, each once
abbrev directions : ℕ → List (List ℤ)
directions zero = []
directions (suc zero) = []
directions (suc (suc zero)) = one_of_two_rows ∷ []
directions (suc (suc (suc n))) = first_of_three ∷ second_of_three ∷ third_of_three ∷ []

on_two : (v : List ℤ) → length v ≡ 2 → dot one_of_two_rows v ≡ get_or v 0 (pos 0) -ℤ get_or v 1 (pos 0)
on_two (x ∷ y ∷ []) l = omega (arith, ints)
on_two [] l = absurd (omega (arith, l))
on_two (x ∷ []) l = absurd (omega (arith, l))
on_two (x ∷ y ∷ z ∷ v) l = absurd (omega (arith, l))

on_three : (v : List ℤ) → length v ≡ 3 → (dot first_of_three v ≡ get_or v 0 (pos 0) -ℤ get_or v 1 (pos 0)) ×
    (dot second_of_three v ≡ get_or v 0 (pos 0) -ℤ get_or v 2 (pos 0)) × (dot third_of_three v ≡ get_or v 1 (pos 0) -ℤ get_or v 2 (pos 0))
on_three (x ∷ y ∷ z ∷ []) l = (omega (arith, ints), omega (arith, ints), omega (arith, ints))
on_three [] l = absurd (omega (arith, l))
on_three (x ∷ []) l = absurd (omega (arith, l))
on_three (x ∷ y ∷ []) l = absurd (omega (arith, l))
on_three (x ∷ y ∷ z ∷ t ∷ v) l = absurd (omega (arith, l))

-- a row that compares entries p and q
data Indices (p q n : ℕ) : Type 0 where
  same_index : p ≡ q → Indices p q n
  two_first : n ≡ 2 → p ≡ 0 → q ≡ 1 → Indices p q n
  two_second : n ≡ 2 → p ≡ 1 → q ≡ 0 → Indices p q n
  three_first : n ≡ 3 → p ≡ 0 → q ≡ 1 → Indices p q n
  three_second : n ≡ 3 → p ≡ 1 → q ≡ 0 → Indices p q n
  three_third : n ≡ 3 → p ≡ 0 → q ≡ 2 → Indices p q n
  three_fourth : n ≡ 3 → p ≡ 2 → q ≡ 0 → Indices p q n
  three_fifth : n ≡ 3 → p ≡ 1 → q ≡ 2 → Indices p q n
  three_sixth : n ≡ 3 → p ≡ 2 → q ≡ 1 → Indices p q n

indices_of : (n p q : ℕ) → n ≤ 3 → p < n → q < n → Indices p q n
indices_of zero p q l h k = absurd (omega (arith, h))
indices_of (suc zero) p q l h k = Indices.same_index (omega (arith, h, k))
indices_of (suc (suc zero)) zero zero l h k = Indices.same_index refl
indices_of (suc (suc zero)) zero (suc zero) l h k = Indices.two_first refl refl refl
indices_of (suc (suc zero)) (suc zero) zero l h k = Indices.two_second refl refl refl
indices_of (suc (suc zero)) (suc zero) (suc zero) l h k = Indices.same_index refl
indices_of (suc (suc zero)) zero (suc (suc q)) l h k = absurd (omega (arith, k))
indices_of (suc (suc zero)) (suc zero) (suc (suc q)) l h k = absurd (omega (arith, k))
indices_of (suc (suc zero)) (suc (suc p)) q l h k = absurd (omega (arith, h))
indices_of (suc (suc (suc zero))) zero zero l h k = Indices.same_index refl
indices_of (suc (suc (suc zero))) zero (suc zero) l h k = Indices.three_first refl refl refl
indices_of (suc (suc (suc zero))) zero (suc (suc zero)) l h k = Indices.three_third refl refl refl
indices_of (suc (suc (suc zero))) (suc zero) zero l h k = Indices.three_second refl refl refl
indices_of (suc (suc (suc zero))) (suc zero) (suc zero) l h k = Indices.same_index refl
indices_of (suc (suc (suc zero))) (suc zero) (suc (suc zero)) l h k = Indices.three_fifth refl refl refl
indices_of (suc (suc (suc zero))) (suc (suc zero)) zero l h k = Indices.three_fourth refl refl refl
indices_of (suc (suc (suc zero))) (suc (suc zero)) (suc zero) l h k = Indices.three_sixth refl refl refl
indices_of (suc (suc (suc zero))) (suc (suc zero)) (suc (suc zero)) l h k = Indices.same_index refl
indices_of (suc (suc (suc zero))) zero (suc (suc (suc q))) l h k = absurd (omega (arith, k))
indices_of (suc (suc (suc zero))) (suc zero) (suc (suc (suc q))) l h k = absurd (omega (arith, k))
indices_of (suc (suc (suc zero))) (suc (suc zero)) (suc (suc (suc q))) l h k = absurd (omega (arith, k))
indices_of (suc (suc (suc zero))) (suc (suc (suc p))) q l h k = absurd (omega (arith, h))
indices_of (suc (suc (suc (suc n)))) p q l h k = absurd (omega (arith, l))

turned : (x y z : ℤ) → x ≡ y -ℤ z → (d : ℤ) → d ≡ z -ℤ y → x ≡ neg_ℤ d
turned x y z e d f = omega (arith, ints, e, f)

module _ (n : ℕ) (h : List ℤ) (few : n ≤ 3) (d : IsDifferenceRow n h) where
  value : (p q : ℕ) → d.high ≡ p → d.low ≡ q → (v : List ℤ) → length v ≡ n → dot h v ≡ get_or v p (pos 0) -ℤ get_or v q (pos 0)
  value p q e g v l = subst (λ (i : ℕ). dot h v ≡ get_or v i (pos 0) -ℤ get_or v q (pos 0)) e
      (subst (λ (j : ℕ). dot h v ≡ get_or v d.high (pos 0) -ℤ get_or v j (pos 0)) g (d.difference v l))

  in_two : (m : ℕ) → m ≡ 2 → Contains (directions m) one_of_two_rows
  in_two m e = subst (λ k. Contains (directions k) one_of_two_rows) (sym e) (Contains-here one_of_two_rows [])

  in_three : (m : ℕ) → m ≡ 3 → (t : List ℤ) → Contains (first_of_three ∷ second_of_three ∷ third_of_three ∷ []) t → Contains (directions m) t
  in_three m e t c = subst (λ k. Contains (directions k) t) (sym e) c

  pub along_one : IsAlongOne n (directions n) h
  along_one = at (indices_of n d.high d.low few d.high_inside d.low_inside)
    where
      at : Indices d.high d.low n → IsAlongOne n (directions n) h
      at (Indices.same_index e) = IsAlongOne.flat (λ v l.
          let p = value d.high d.low refl refl v l in
          let q : get_or v d.high (pos 0) ≡ get_or v d.low (pos 0) = ap (λ i. get_or v i (pos 0)) e in
          omega (arith, ints, p, q))
      at (Indices.two_first e p q) = IsAlongOne.along one_of_two_rows (in_two n e)
          (λ v l. value 0 1 p q v l ∙ sym (on_two v (l ∙ e)))
      at (Indices.two_second e p q) = IsAlongOne.against one_of_two_rows (in_two n e)
          (λ v l. turned (dot h v) (get_or v 1 (pos 0)) (get_or v 0 (pos 0)) (value 1 0 p q v l) (dot one_of_two_rows v) (on_two v (l ∙ e)))
      at (Indices.three_first e p q) = IsAlongOne.along first_of_three (in_three n e first_of_three (0, omega arith, refl))
          (λ v l. value 0 1 p q v l ∙ sym (on_three v (l ∙ e)).0)
      at (Indices.three_second e p q) = IsAlongOne.against first_of_three (in_three n e first_of_three (0, omega arith, refl))
          (λ v l. turned (dot h v) (get_or v 1 (pos 0)) (get_or v 0 (pos 0)) (value 1 0 p q v l) (dot first_of_three v) (on_three v (l ∙ e)).0)
      at (Indices.three_third e p q) = IsAlongOne.along second_of_three (in_three n e second_of_three (1, omega arith, refl))
          (λ v l. value 0 2 p q v l ∙ sym (on_three v (l ∙ e)).1)
      at (Indices.three_fourth e p q) = IsAlongOne.against second_of_three (in_three n e second_of_three (1, omega arith, refl))
          (λ v l. turned (dot h v) (get_or v 2 (pos 0)) (get_or v 0 (pos 0)) (value 2 0 p q v l) (dot second_of_three v) (on_three v (l ∙ e)).1)
      at (Indices.three_fifth e p q) = IsAlongOne.along third_of_three (in_three n e third_of_three (2, omega arith, refl))
          (λ v l. value 1 2 p q v l ∙ sym (on_three v (l ∙ e)).2)
      at (Indices.three_sixth e p q) = IsAlongOne.against third_of_three (in_three n e third_of_three (2, omega arith, refl))
          (λ v l. turned (dot h v) (get_or v 2 (pos 0)) (get_or v 1 (pos 0)) (value 2 1 p q v l) (dot third_of_three v) (on_three v (l ∙ e)).2)

has_room_for : (n : ℕ) → 1 ≤ n → n ≤ 3 → has_far_room n 1 (length (directions n)) ≡ true
has_room_for zero h l = absurd (omega (arith, h))
has_room_for (suc zero) h l = repeated_rows_fit.room.2
has_room_for (suc (suc zero)) h l = repeated_rows_fit.room.1
has_room_for (suc (suc (suc zero))) h l = repeated_rows_fit.room.0
has_room_for (suc (suc (suc (suc n)))) h l = absurd (omega (arith, l))

no_pairs_room : (n : ℕ) → 1 ≤ n → n ≤ 3 → has_room n 1 0 ≡ true
no_pairs_room zero h l = absurd (omega (arith, h))
no_pairs_room (suc zero) h l = refl
no_pairs_room (suc (suc zero)) h l = refl
no_pairs_room (suc (suc (suc zero))) h l = refl
no_pairs_room (suc (suc (suc (suc n)))) h l = absurd (omega (arith, l))

-- ---- weights that are the same

weights_grade : (v : List ℤ) → IsGrading (λ x y. whole_weight v x ≡ whole_weight v y)
weights_grade v = record {
  decide = λ x y. equal_or_not (whole_weight v x) (whole_weight v y);
  along = λ x y s. whole_weight-same v x y s;
  symmetric = λ x y e. sym e;
  transitive = λ x y z e f. e ∙ f;
  invariant = λ z x y e. weight-product v z x ∙ ap (λ (k : ℤ). whole_weight v z +ℤ k) e ∙ sym (weight-product v z y);
}

-- by zeros all do
zero_weight : (n : ℕ) (x : Exponents) → whole_weight (zeros n) x ≡ pos 0
zero_weight zero x = refl
zero_weight (suc n) [] = refl
zero_weight (suc n) (a ∷ x) = let p = zero_weight n x in omega (arith, ints, p)

-- ---- sums of no rays

no_members : {X : Type 0} (xs : List X) → ((x : X) → Contains xs x → ⊥) → xs ≡ []
no_members [] h = refl
no_members (x ∷ xs) h = absurd (h x (Contains-here x xs))

no_numbers : (xs : List ℕ) → All (λ i. i < 0) xs → xs ≡ []
no_numbers [] h = refl
no_numbers (x ∷ xs) h = absurd (let l = h 0 0 (omega arith) in omega (arith, l))

zeros_bounded : (n : ℕ) → All (λ w. unsigned_abs w ≤ 2 ^ 63) (zeros n)
zeros_bounded n = all_by (λ w. unsigned_abs w ≤ 2 ^ 63) (zeros n)
    (λ w c. let e = zero_there n w c in subst (λ (z : ℤ). unsigned_abs z ≤ 2 ^ 63) (sym e) (omega arith))
  where
    zero_there : (n : ℕ) (w : ℤ) → Contains (zeros n) w → w ≡ pos 0
    zero_there zero w c = absurd (none_in w c)
    zero_there (suc n) w c = elim (in_cons (pos 0) (zeros n) w c) [ inl e ↦ e | inr k ↦ zero_there n w k ]

-- ---- the test

terms_of_two : (fs : List Terms) → ((f : Terms) → Contains fs f → length f ≡ 2) → terms_but 2 fs ≡ 0
terms_of_two [] h = refl
terms_of_two (f ∷ fs) h =
    let p = h f (Contains-here f fs) in
    let q = terms_of_two fs (λ g c. h g (in_tail f fs g c)) in
    omega (arith, p, q)

module _ (n : ℕ) (fs : List Terms) (budget : ℕ) (some : 1 ≤ n) (few : n ≤ 3) (ds : (f : Terms) → Contains fs f → IsKeptDifference n f)
    (room : pairs_below (n + 1) ≤ budget) where
  ring : HaveRingVariables n fs
  ring = record { each = λ f c. in_ring n f (ds f c) }

  abbrev differences : AreDifferencesOfVariables n fs
  differences f c = difference_of n f (ds f c)

  linear : AreLinearDifferences n fs
  linear = linear_of n fs ring differences

  inside : AreInVariables n fs
  inside = ring_variables n fs ring

  fewer : pairs_below n ≤ budget
  fewer = let p = pairs_mono n (n + 1) (omega arith) in omega (arith, p, room)

  -- all entries that a generator compares are the same
  abbrev IsLevel : List ℤ → Type 0
  IsLevel v = (f : Terms) (c : Contains fs f) → get_or v (ds f c).first (pos 0) ≡ get_or v (ds f c).second (pos 0)

  -- then all monomials of a member of a basis weigh the same
  module _ (b : MarkedPolynomials) (node : IsNodeIn (ideal_by n fs) b) where
    own : IsBasisInRegion n fs (all_positive n) b.items
    own = node.basis

    weigh_alike : (v : List ℤ) → IsLevel v → (m : MarkedPolynomial) → Contains b.items m → (x : Exponents) → HasMonomial m.poly x →
        whole_weight v x ≡ whole_weight v m.head
    weigh_alike v level m c x h =
        basis-graded n fs (λ y z. whole_weight v y ≡ whole_weight v z) b.items m (weights_grade v) inside one own.reduced.basis.members
        own.reduced.basis.decides own.reduced.tails c x h
      where
        weight_of : (f : Terms) (k : Contains fs f) (y : Exponents) → HasMonomial f y → whole_weight v y ≡ get_or v (ds f k).first (pos 0)
        weight_of f k y i = elim (either n f (differences f k) y i) [
          | inl s ↦ whole_weight-same v y (variable_at n (ds f k).first) s
              ∙ variable_weight v (variable_at n (ds f k).first) (ds f k).first (is_variable n (ds f k).first (ds f k).first_inside)
          | inr s ↦ whole_weight-same v y (variable_at n (ds f k).second) s
              ∙ variable_weight v (variable_at n (ds f k).second) (ds f k).second (is_variable n (ds f k).second (ds f k).second_inside)
              ∙ sym (level f k)
        ]

        one : (f : Terms) → Contains fs f → (y z : Exponents) → HasMonomial f y → HasMonomial f z → whole_weight v y ≡ whole_weight v z
        one f k y z i j = weight_of f k y i ∙ sym (weight_of f k z j)

    -- and the normals are zero
    normal_flat : (v : List ℤ) → IsLevel v → (a : List ℤ) → IsNormal b.items a → dot a v ≡ pos 0
    normal_flat v level a h =
        let r = normal_at n fs (all_positive n) b.items linear own a h in
        let members : AreLinearMembers b.items = region_members n fs (all_positive n) b.items linear.forms own in
        let e = weigh_alike v level r.member r.contained r.at r.there in
        let p = variable_weight v r.member.head (index_of r.member.head) (variable_at_index r.member.head (members.heads r.member r.contained)) in
        let q = variable_weight v r.at (index_of r.at) (variable_at_index r.at (members.within r.member r.contained r.at r.there)) in
        let k = r.value v in
        omega (arith, ints, e, p, q, k)

    -- ---- a cone of the prevariety

    module _ (h : FanLists) (normals : List (List ℤ)) (c : Rows) (fan : IsTestFan n fs h) (are : AreNormals b.items normals)
        (listed : Contains (maximal_rows h) c) where
      cone : (k : FanCone) × (Contains (maximal_of h) k × (rows_of k.cone ≡ c))
      cone = of_map (λ (k : FanCone). rows_of k.cone) (maximal_of h) c listed

      closed : IsClosedConeOf IsOnPrevariety n (map points fs) (rows_of cone.0.cone)
      closed = fan.prevariety.each cone.0 (maximal_some h.ambient fan.prevariety.fan.0 h fan.prevariety.fan.1 cone.0 cone.1.0)

      level_in : (v : List ℤ) → length v ≡ n → IsInCone c v → IsLevel v
      level_in v l i f k =
          let A = points f in
          let there : Contains (map points fs) A = in_map points fs f k in
          level_at n f (ds f k) closed.vector v l (closed.admitted A there)
          ((closed.closed v l).0 (subst (λ (z : Rows). IsInCone z v) (sym cone.1.1) i) A there)

      -- its rows
      row_in : (t : List ℤ) → HasRow c t → (f : Terms) × (k : Contains fs f) × (x : List ℤ) × (y : List ℤ) × (Contains (points f) x) ×
          (Contains (points f) y) × (t ≡ vector_difference x y)
      row_in t r =
          let d : IsDifferenceIn (map points fs) t = fan.rows.each cone.0 cone.1.0 t (subst (λ (z : Rows). HasRow z t) (sym cone.1.1) r) in
          let f = of_map points fs d.of d.listed in
          let back : (x : List ℤ) → Contains d.of x → Contains (points f.0) x = λ x i. subst (λ (z : List (List ℤ)). Contains z x) (sym f.1.1) i in
          let e = d.difference in
          (f.0, f.1.0, e.high, e.low, back e.high e.of_high, back e.low e.of_low, e.is)

      differs : (t : List ℤ) → HasRow c t → IsDifferenceRow n t
      differs t r =
          let o = row_in t r in
          let f = o.0 in
          let d = ds f o.1 in
          let p = index_in f d o.2 o.4 in
          let q = index_in f d o.3 o.5 in
          record {
            width = ap length o.6 ∙ minus_long n o.2 o.3 (ap length p.2 ∙ length-unit n p.0) (ap length q.2 ∙ length-unit n q.0);
            high = p.0;
            low = q.0;
            high_inside = p.1;
            low_inside = q.1;
            difference = λ v l.
                ap (λ (z : List ℤ). dot z v) o.6
                ∙ dot_minus o.2 o.3 v (ap length p.2 ∙ length-unit n p.0 ∙ sym (ap length q.2 ∙ length-unit n q.0))
                ∙ ap₂ (λ (y z : ℤ). y -ℤ z) (ap (λ (z : List ℤ). dot z v) p.2 ∙ dot-unit n p.0 v p.1 l)
                (ap (λ (z : List ℤ). dot z v) q.2 ∙ dot-unit n q.0 v q.1 l);
          }
        where
          index_in : (f : Terms) (d : IsKeptDifference n f) (x : List ℤ) → Contains (points f) x → (i : ℕ) × (i < n) × (x ≡ unit n i)
          index_in f d x k = elim (point_cases n f d x k) [
            | inl e ↦ (d.first, d.first_inside, e)
            | inr e ↦ (d.second, d.second_inside, e)
          ]

      row_flat : (v : List ℤ) → length v ≡ n → IsLevel v → (t : List ℤ) → HasRow c t → dot t v ≡ pos 0
      row_flat v l level t r =
          let o = row_in t r in
          let d = ds o.0 o.1 in
          let at : (x : List ℤ) → Contains (points o.0) x → dot x v ≡ get_or v d.first (pos 0) = λ x k. elim (point_cases n o.0 d x k) [
            | inl e ↦ ap (λ (z : List ℤ). dot z v) e ∙ dot-unit n d.first v d.first_inside l
            | inr e ↦ ap (λ (z : List ℤ). dot z v) e ∙ dot-unit n d.second v d.second_inside l ∙ sym (level o.0 o.1)
          ] in
          let e = at o.2 o.4 in
          let g = at o.3 o.5 in
          let long : (x : List ℤ) → Contains (points o.0) x → length x ≡ n = λ x k. elim (point_cases n o.0 d x k) [
            | inl q ↦ ap length q ∙ length-unit n d.first
            | inr q ↦ ap length q ∙ length-unit n d.second
          ] in
          let k : dot t v ≡ dot o.2 v -ℤ dot o.3 v =
          ap (λ (z : List ℤ). dot z v) o.6 ∙ dot_minus o.2 o.3 v (long o.2 o.4 ∙ sym (long o.3 o.5)) in
          omega (arith, ints, e, g, k)

      -- its part in the closed cone of the basis
      all_differ : AreDifferenceRows n (c.inequalities ++ normals)
      all_differ t k = elim (Contains-append_cases c.inequalities normals t k) [
        | inl i ↦ differs t (inl i)
        | inr i ↦ (linear_normals n fs (all_positive n) b.items linear own normals are (omega (arith, few))).1 t i
      ]

      equations_differ : AreDifferenceRows n c.equations
      equations_differ t k = differs t (inr k)

      rays_fit : AreRaysWithinLimits n (c.inequalities ++ normals) c.equations
      rays_fit = repeated_rows_fit.systems n 1 (directions n) (record { inequalities = c.inequalities ++ normals; equations = c.equations }) some (omega arith)
          (record {
            inequalities_width = all_by (λ t. length t ≡ n) (c.inequalities ++ normals) (λ t k. (all_differ t k).width);
            equations_width = all_by (λ t. length t ≡ n) c.equations (λ t k. (equations_differ t k).width);
            inequalities = rows_small n (c.inequalities ++ normals) 1 (omega arith) all_differ;
            equations = rows_small n c.equations 1 (omega arith) equations_differ;
          })
          (λ t k. along_one n t few (all_differ t k)) (has_room_for n some few)

      module _ (cut : RowsAndRays) (faces : List Face) (f : Face) (is : IsCutBy c n normals cut) (are_faces : AreFaces cut faces) (k : Contains faces f) where
        no_ray : (x : List ℤ) → Contains cut.rays x → ⊥
        no_ray x i =
            let d = described_of n cut.inequalities cut.equations cut.lineality cut.rays is.are_rays in
            let l = d.rays_width x i in
            let s = ray_in n cut.inequalities cut.equations cut.lineality cut.rays x d i in
            let v : IsInCone c x = record {
              not_negative = all_by (λ h. pos 0 ≤ℤ dot h x) c.inequalities (λ h j. All-contains (λ t. pos 0 ≤ℤ dot t x) cut.inequalities h s.not_negative
                  (subst (λ (z : List (List ℤ)). Contains z h) (sym is.inequalities) (Contains-append_left c.inequalities normals h j)));
              zero = subst (All (λ h. dot h x ≡ pos 0)) is.equations s.zero;
            } in
            let level = level_in x l v in
            let p = d.pointed x i in
            let z : dot p.0 x ≡ pos 0 =
            elim (Contains-append_cases c.inequalities normals p.0 (subst (λ (z : List (List ℤ)). Contains z p.0) is.inequalities p.1.0)) [
              | inl j ↦ row_flat x l level p.0 (inl j)
              | inr j ↦ normal_flat x level p.0 (are.only p.0 j)
            ] in
            let up = p.1.1 in
            omega (arith, ints, z, up)

        none : cut.rays ≡ []
        none = no_members cut.rays no_ray

        no_number : f.rays ≡ []
        no_number = no_numbers f.rays (subst (λ (r : List (List ℤ)). All (λ i. i < length r) f.rays) none (face_numbers cut faces f are_faces k))

        vector_is : vector_of cut f ≡ zeros cut.ambient
        vector_is = ap (λ (r : List ℕ). sum_of cut.ambient (numbered cut.rays r)) no_number

        -- the initial forms
        module _ (forms : List Terms) (a : AreKeptFormsAt cut.ambient (vector_of cut f) b.items forms) where
          two : (m : MarkedPolynomial) → Contains b.items m → IsMarkedBinomial m
          two = bases_of_binomials n fs b.items inside linear.binomials own.reduced

          of_form : (g : Terms) → Contains forms g → (m : MarkedPolynomial) × Contains b.items m × IsInitialForm (zeros cut.ambient) m.poly g
          of_form g i =
              let parts = a.forms.parts in
              let p = Contains-marked parts g (subst (λ (z : List Terms). Contains z g) (sym a.forms.polys_are) i) in
              let m = matched-from (IsInitialPart (vector_of cut f)) b.items parts a.forms.are_parts p.0 p.1 in (
                m.0,
                m.1,
                subst (λ (z : Terms). IsInitialForm (zeros cut.ambient) m.0.poly z) p.2
                    (subst (λ (w : List ℤ). IsInitialForm w m.0.poly p.0.poly) vector_is m.2.form),
              )

          -- at zero each is the member itself
          same_form : (g : Terms) (i : Contains forms g) → SamePolynomial g (of_form g i).0.poly
          same_form g i x =
              let o = of_form g i in
              o.2.heaviest x (λ y j. let p = zero_weight cut.ambient x in let q = zero_weight cut.ambient y in omega (arith, ints, p, q))

          form_monomial : (g : Terms) (i : Contains forms g) (x : Exponents) → HasMonomial g x → HasMonomial (of_form g i).0.poly x
          form_monomial g i x m z = m (same_form g i x ∙ z)

          good : IsGood n forms
          good = record {
            forms = record {
              variables = λ g i x m. variables_of_member n fs (of_form g i).0.poly inside (own.reduced.basis.members (of_form g i).0 (of_form g i).1) x
                  (form_monomial g i x m);
              linear = λ g i x m.
                  (region_members n fs (all_positive n) b.items linear.forms own).within (of_form g i).0 (of_form g i).1 x (form_monomial g i x m);
            };
            sums = λ g i.
                sum_same g (of_form g i).0.poly (same_form g i)
                ∙ sum_of_member n fs (of_form g i).0.poly
                (λ s j. sum_of_binomial (variable_at n (ds s j).first) (variable_at n (ds s j).second) s (binomial_of n s (ds s j)))
                (own.reduced.basis.members (of_form g i).0 (of_form g i).1);
          }

          steps : AreStepsWithinLimits cut.ambient forms budget
          steps = subst (λ m. AreStepsWithinLimits m forms budget) (sym is.ambient)
              (saturations_of_good n forms budget (subst (λ m. HaveRingVariables m forms) is.ambient a.variables) good
              (forms_at_binomials (vector_of cut f) b.items forms a.forms (λ m i. binomial-marked m (two m i))) room)

        face_fits : IsFaceWithinLimits b.items cut budget f
        face_fits = record {
          sums = subst (λ (r : List ℕ). NoneWide (adding_steps (zeros cut.ambient) (numbered cut.rays r))) (sym no_number) tt;
          entries = subst AreBounded (sym vector_is) (zeros_bounded cut.ambient);
          runs = steps;
        }

  pub fits : PolynomialsWithRoomStayWithinLimits → IsTestWithinLimits n fs budget
  fits polynomials = record {
    prevariety = polynomials.prevarieties n 1 fs some (omega arith) (all_by (λ f. f ≢ []) fs (λ f c. not_none n f (ds f c)))
        (all_by (HasVariables n) fs (λ f c. in_ring n f (ds f c)))
        (all_by (λ f. All (λ (t : Term). All (λ e. e ≤ 1) t.mono) f) fs (λ f c. exponents_small n f (ds f c)))
        (λ k l. let z : k ≡ 0 = (let p = terms_of_two fs (λ f c. two_long n f (ds f c)) in omega (arith, l, p)) in
        subst (λ j. has_room n 1 j ≡ true) (sym z) (no_pairs_room n some few));
    root = linear_ruled_runs Degree MonomialOrder.deglex n fs budget tt ring linear fewer;
    search = search_within (ideal_by n fs) budget linear few (All-nil _) fewer;
    faces = λ h b normals c fan node are listed. record {
      rays = rays_fit b node h normals c fan are listed;
      faces = λ cut faces f is are_faces k. face_fits b node h normals c fan are listed cut faces f is are_faces k;
    };
  }

pub basis_tests_of_differences : PolynomialsWithRoomStayWithinLimits → BasisTestsOfDifferencesStayWithinLimits
basis_tests_of_differences polynomials n fs budget some few ds room = fits n fs budget some few ds room polynomials
