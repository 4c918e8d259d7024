-- The search over the bases of an ideal that differences of variables generate, in at most four variables, stays within its limits, and so does `_bases`.
-- To cite: all_up, differences_up, unit_up, search_within, search_in_four, certified, linear_ideals. The rest are steps.
use Rattle.std.proofs.Common.{
  ◌≡◌,
  ℕ,
  zero,
  suc,
  ◌+◌,
  ◌≤◌,
  true,
  false,
  List,
  [],
  ◌∷◌,
  ◌++◌,
  length,
  All,
  Contains,
  Err,
  None,
  ℤ,
  pos,
  ◌-ℤ◌,
  unsigned_abs,
  arith,
  sym,
  ◌∙◌,
  subst,
  inl,
  inr,
}
use Rattle.std.proofs.lemmas.Int.{ints}
use Rattle.std.proofs.lemmas.List.{get_or_default}
use Rattle.std.proofs.lemmas.List.Elements.{All-nil, All-contains, Contains-get_or, Contains-append_cases}
use Rattle.gf_exponents_theory.specs.Exponents.{Exponents, entry}
use Rattle.gf_exponents_theory.specs.Orders.{gains}
use Rattle.gf_int_theory.proofs.ListLaws.{all_by}
use Rattle.gf_poly.specs.Marking.{MarkedPolynomial, MarkedPolynomials}
use Rattle.gf_poly.specs.Polynomial.{Terms}
use Rattle.gf_ideal_theory.specs.MonomialOrders.{MonomialOrder}
use Rattle.gf_ideal_theory.proofs.KeptForms.{term_there}
use Rattle.gf_ideal_theory.proofs.SmallBases.{only}
use Rattle.gf_gordan.specs.Alternative.{AreRows}
use Rattle.gf_gordan.specs.Sizes.{HaveEntriesUpTo}
use Rattle.gf_gordan.specs.declared.error.ConeOverflow.{ConeOverflow}
use Rattle.gf_gordan.specs.declared.error.GordanError.TheVariants.{Cone, Memory}
use Rattle.gf_gordan.proofs.SizeLaws.{UpTo, up_none, up_cons, up_zeros, up_divided}
use Rattle.gf_gordan.proofs.ThreeColumns.{not_refused}
use Rattle.gf_facets_theory.specs.Rows.{differences, IsNormal}
use Rattle.gf_facets_theory.specs.Systems.{unit, units}
use Rattle.gf_facets_theory.specs.Facets.{IsFlippable}
use Rattle.gf_facets_theory.specs.Normals.{others_of}
use Rattle.gf_facets_theory.specs.Regions.{IsInRegion, all_positive}
use Rattle.gf_facets_theory.specs.MarkedBases.{AreCanonical, IsBasisInRegion}
use Rattle.gf_facets_theory.proofs.RowLaws.{IsTermRow, row-from}
use Rattle.gf_facets_theory.proofs.NormalLaws.{normal-length}
use Rattle.gf_facets_theory.proofs.NormalListLaws.{others_only}
use Rattle.gf_facets_theory.proofs.SystemLaws.{region_rows_wide, all_positive-region}
use Rattle.gf_facets_theory.proofs.UnitLaws.{unit_of}
use Rattle.gf_cone.specs.Cones.{ConeRows, normal_at, other_rows}
use Rattle.gf_reverse_theory.specs.Upward.{Fan, IsNodeIn}
use Rattle.gf_flip.specs.Operations.{IsFlipWithinLimits}
use Rattle.gf_tree.specs.Refusals.{IsConeStep, IsTreeWithinLimits}
use Rattle.gf_tree.specs.Ideals.{ideal_by, ideal_within}
use Rattle.gf_buchberger.specs.declared.queue.Strategy.TheVariants as strategies
use Rattle.gf_buchberger.specs.Tasks.{HaveRingVariables}
use Rattle.gf_buchberger.specs.Pairs.{pairs_below}
use Rattle.gf_weights.specs.Refusals.{AreCertificatesFittingIn}
use Rattle.gf_duality_theory.proofs.ListLaws.{none_in}
use Rattle.gfan_lists.specs.declared.bases.ListOptions.{ListOptions}
use Rattle.gf_lists_theory.specs.BasesList.{IsGivenIn}
use Rattle.gf_lists_theory.proofs.BasesListLaws.{given_in_node}
use Rattle.gfan_lists.specs.Bases.{IsWithinLimit}
use Rattle.gfan_theory.specs.Inputs.{AreListsWithin, AreRegionListsWithin}
use Rattle.gfan_theory.proofs.InputLaws.{lists_within, regions_within}
use Rattle.gfan_theory.specs.Differences.{AreDifferenceRows}
use Rattle.gfan_theory.specs.Linear.{AreLinearForms, AreLinearDifferences, LinearIdealsStayWithinLimits}
use Rattle.gfan_theory.proofs.LinearRuns.{entry_low, AreLinearMembers, linear_ruled_runs}
use Rattle.gfan_theory.proofs.LinearBases.{region_members, flips_of_linear_fit}
use Rattle.gfan_theory.proofs.FourColumns.{no_system_step}
use Rattle.gfan_theory.proofs.LinearNormals.{linear_normals}
use Rattle.gfan_theory.proofs.DifferenceLimits.{rows_small, regions_of_differences_fit, certificates_of_differences_fit}

-- ---- entries

pub all_up : (b : ℕ) (xs : List ℤ) → UpTo b xs → All (λ x. unsigned_abs x ≤ b) xs
all_up b xs u i d l = subst (λ (x : ℤ). unsigned_abs x ≤ b) (get_or_default xs i (pos 0) d l) (u.at i)

pub differences_up : (b : ℕ) (x y : Exponents) → ((i : ℕ) → entry x i ≤ b) → ((i : ℕ) → entry y i ≤ b) → UpTo b (differences x y)
differences_up b [] y h k = up_none b
differences_up b (a ∷ x) [] h k = up_none b
differences_up b (a ∷ x) (c ∷ y) h k =
    let p : a ≤ b = h 0 in
    let q : c ≤ b = k 0 in
    up_cons b (pos a -ℤ pos c) (differences x y) (omega (arith, ints, p, q)) (differences_up b x y (λ i. h (suc i)) (λ i. k (suc i)))

pub unit_up : (b n i : ℕ) → 1 ≤ b → UpTo b (unit n i)
unit_up b zero i h = up_none b
unit_up b (suc n) zero h = up_cons b _ _ (omega (arith, h)) (up_zeros b n)
unit_up b (suc n) (suc i) h = up_cons b _ _ (omega arith) (unit_up b n i h)

-- ---- the systems

module _ (F : Fan) (d : AreLinearForms F.variables F.ideal) (b : ℕ) (some : 1 ≤ b) (low : HaveEntriesUpTo b F.region.rows) (v : MarkedPolynomials)
    (s : ConeOverflow) (node : IsNodeIn F v) (step : IsConeStep F v s) where
  abbrev n : ℕ
  n = v.variables

  abbrev c : ConeRows
  c = step.cone

  abbrev rows : List (List ℤ)
  rows = other_rows c step.index

  abbrev a : List ℤ
  a = normal_at c step.index

  members : AreLinearMembers v.items
  members = region_members F.variables F.ideal F.region v.items d node.basis

  canonical : AreCanonical n v.items
  canonical = step.is_cone.canonical

  normal_up : (t : List ℤ) → IsNormal v.items t → UpTo b t
  normal_up t k = at (row-from v.items k.0 k.1)
    where
      at : ((e : MarkedPolynomial) × Contains v.items e × IsTermRow e.head e.poly k.0) → UpTo b t
      at m =
          let t = m.2.term in
          let w = canonical m.0 m.1 in
          up_divided b k.0 _ k.2.0 k.2.1 (subst (UpTo b) (sym m.2.row)
          (differences_up b m.0.head t.mono
          (λ i. let p = entry_low m.0.head i in let q = members.heads m.0 m.1 in omega (arith, p, q, some))
          (λ i. let p = entry_low t.mono i in let q = members.within m.0 m.1 t.mono (term_there n m.0.poly t w.variables w.descending m.2.inside) in
          omega (arith, p, q, some))))

  normal_long : (t : List ℤ) → IsNormal v.items t → length t ≡ c.variables
  normal_long t k = normal-length n v.items t canonical k ∙ sym step.is_cone.variables

  region_wide : AreRows n F.region.rows
  region_wide = subst (λ (m : ℕ). AreRows m F.region.rows) (sym node.variables) node.fan.region.widths

  is_normal : IsNormal v.items a
  is_normal = step.is_cone.normals.only a (Contains-get_or c.normals step.index [] step.inside)

  other : (t : List ℤ) → Contains (others_of step.index c.normals) t → IsNormal v.items t
  other t k = step.is_cone.normals.only t (others_only c.normals step.index t step.is_cone.normals.rises step.inside k).0

  rows_wide : AreRows c.variables rows
  rows_wide = all_by (λ t. length t ≡ c.variables) rows (λ t k. elim (Contains-append_cases (others_of step.index c.normals) c.beside t k) [
    | inl o ↦ normal_long t (other t o)
    | inr i ↦ All-contains (λ t. length t ≡ n) (F.region.rows ++ units n n) t (region_rows_wide n F.region region_wide)
        (subst (λ (z : List (List ℤ)). Contains z t) step.is_cone.beside i) ∙ sym step.is_cone.variables
  ])

  rows_low : HaveEntriesUpTo b rows
  rows_low = all_by (All (λ x. unsigned_abs x ≤ b)) rows (λ t k. elim (Contains-append_cases (others_of step.index c.normals) c.beside t k) [
    | inl o ↦ all_up b t (normal_up t (other t o))
    | inr i ↦ elim (Contains-append_cases F.region.rows (units n n) t (subst (λ (z : List (List ℤ)). Contains z t) step.is_cone.beside i)) [
      | inl r ↦ All-contains (All (λ x. unsigned_abs x ≤ b)) F.region.rows t low r
      | inr u ↦ let p = unit_of n n t u in all_up b t (subst (UpTo b) (sym p.2) (unit_up b n p.0 some))
    ]
  ])

  equation_wide : AreRows c.variables (a ∷ [])
  equation_wide = all_by (λ t. length t ≡ c.variables) (a ∷ []) (λ t k. subst (λ (z : List ℤ). length z ≡ c.variables) (only a t k) (normal_long a is_normal))

  equation_low : HaveEntriesUpTo b (a ∷ [])
  equation_low = all_by (All (λ x. unsigned_abs x ≤ b)) (a ∷ [])
      (λ t k. subst (λ (z : List ℤ). All (λ x. unsigned_abs x ≤ b) z) (only a t k) (all_up b a (normal_up a is_normal)))

-- in three variables, with rows of the region up to 500
systems_within : (F : Fan) → AreLinearForms F.variables F.ideal → F.variables ≤ 3 → HaveEntriesUpTo 500 F.region.rows →
    (v : MarkedPolynomials) (s : ConeOverflow) → IsNodeIn F v → IsConeStep F v s → ⊥
systems_within F d few low v s node step =
    let some : 1 ≤ 500 = omega arith in
    let q : Cone s ≡ Memory =
    not_refused (Err (Cone s)) (length (rows F d 500 some low v s node step) + 1) step.cone.variables (rows F d 500 some low v s node step)
    (a F d 500 some low v s node step ∷ []) (rows_wide F d 500 some low v s node step) (equation_wide F d 500 some low v s node step) step.step
    (omega (arith, few, node.variables, step.is_cone.variables)) (rows_low F d 500 some low v s node step) (equation_low F d 500 some low v s node step) in
    absurd (cc)

-- in four, with rows of the region up to 10
systems_in_four : (F : Fan) → AreLinearForms F.variables F.ideal → F.variables ≤ 4 → HaveEntriesUpTo 10 F.region.rows →
    (v : MarkedPolynomials) (s : ConeOverflow) → IsNodeIn F v → IsConeStep F v s → ⊥
systems_in_four F d few low v s node step =
    let some : 1 ≤ 10 = omega arith in
    no_system_step (length (rows F d 10 some low v s node step) + 1) step.cone.variables (rows F d 10 some low v s node step)
    (a F d 10 some low v s node step ∷ []) s (omega (arith, few, node.variables, step.is_cone.variables)) (rows_wide F d 10 some low v s node step)
    (equation_wide F d 10 some low v s node step) (rows_low F d 10 some low v s node step) (equation_low F d 10 some low v s node step) step.step

-- ---- searches and lists

-- the flips
flips_within : (F : Fan) (budget : ℕ) → AreLinearDifferences F.variables F.ideal → pairs_below F.variables ≤ budget → (v : MarkedPolynomials) (a : List ℤ) →
    IsNodeIn F v → IsFlippable v.variables F.region v.items a → IsFlipWithinLimits v.variables v.items a budget
flips_within F budget d room v a node q =
    flips_of_linear_fit v.variables F.ideal F.region v.items a (subst (λ (m : ℕ). AreLinearDifferences m F.ideal) (sym node.variables) d)
    (subst (λ (m : ℕ). IsBasisInRegion m F.ideal F.region v.items) (sym node.variables) node.basis) q budget
    (subst (λ (m : ℕ). pairs_below m ≤ budget) (sym node.variables) room)

pub search_within : (F : Fan) (budget : ℕ) → AreLinearDifferences F.variables F.ideal → F.variables ≤ 3 → HaveEntriesUpTo 500 F.region.rows →
    pairs_below F.variables ≤ budget → IsTreeWithinLimits F budget
search_within F budget d few low room = record { flips = flips_within F budget d room; systems = systems_within F d.forms few low }

pub search_in_four : (F : Fan) (budget : ℕ) → AreLinearDifferences F.variables F.ideal → F.variables ≤ 4 → HaveEntriesUpTo 10 F.region.rows →
    pairs_below F.variables ≤ budget → IsTreeWithinLimits F budget
search_in_four F budget d few low room = record { flips = flips_within F budget d room; systems = systems_in_four F d.forms few low }

-- nothing is asked for where there are no certificates
uncertified : {A : Type 0} (o : ListOptions) → o.certified ≡ false → o.certified ≡ true → A
uncertified o plain c = absurd (let no : false ≡ true = sym plain ∙ c in cc)

-- the certificates of a basis
pub certified : (n : ℕ) (fs : List Terms) (b : MarkedPolynomials) → 1 ≤ n → n ≤ 4 → AreLinearDifferences n fs → IsGivenIn n (all_positive n) fs b →
    AreCertificatesFittingIn b.variables (all_positive n) b.items
certified n fs b some small d g =
    let node = given_in_node n (all_positive n) fs b d.forms.variables (all_positive-region n) g in
    subst (λ (m : ℕ). AreCertificatesFittingIn m (all_positive n) b.items) (sym g.variables)
    (certificates_of_differences_fit n (all_positive n) b.items some small (λ row k. absurd (none_in row k))
    (λ normals m. let p = linear_normals n fs (all_positive n) b.items d node.basis normals m small in (let l = p.0 in omega (arith, l), p.1)))

lists : (o : ListOptions) (n : ℕ) (fs : List Terms) → o.limit ≡ None → 1 ≤ n → n ≤ 4 → HaveRingVariables n fs → AreLinearDifferences n fs →
    pairs_below n ≤ o.pairs → AreListsWithin o n fs
lists o n fs unlimited some small ring d room = lists_within o n fs (record {
  root = linear_ruled_runs strategies.Degree MonomialOrder.deglex n fs o.pairs tt ring d room;
  going = record {
    tree = search_in_four (ideal_by n fs) o.pairs d small (All-nil _) room;
    few = λ list all. subst (λ l. IsWithinLimit l list) (sym unlimited) tt;
    certificates = λ c b g. certified n fs b some small d g;
  };
})

regions : (o : ListOptions) (n : ℕ) (rows : List (List ℤ)) (v : List ℤ) (fs : List Terms) → o.limit ≡ None → o.certified ≡ false → 1 ≤ n → n ≤ 4 →
    length rows ≤ 3 → AreDifferenceRows n rows → IsInRegion n (record { rows = rows; root = v }) v → HaveRingVariables n fs → AreLinearDifferences n fs →
    pairs_below n ≤ o.pairs → AreRegionListsWithin o n rows fs
regions o n rows v fs unlimited plain some small few differ inside ring d room = regions_within o n rows fs (record {
  region = regions_of_differences_fit n rows v some small few differ inside;
  root = λ k i. linear_ruled_runs strategies.Degree (MonomialOrder.weighted (gains k.root)) n fs o.pairs tt ring d room;
  going = λ k i. record {
    tree = search_in_four (ideal_within n fs k) o.pairs d small (subst (HaveEntriesUpTo 10) (sym i.same) (rows_small n rows 10 (omega arith) differ)) room;
    few = λ list all. subst (λ l. IsWithinLimit l list) (sym unlimited) tt;
    certificates = λ c. uncertified o plain c;
  };
})

pub linear_ideals : LinearIdealsStayWithinLimits
linear_ideals = record {
  flips = λ n fs k bs a budget d b q room. flips_of_linear_fit n fs k bs a d b q budget room;
  searches = search_within;
  searches_in_four = search_in_four;
  lists = lists;
  regions = regions;
}
