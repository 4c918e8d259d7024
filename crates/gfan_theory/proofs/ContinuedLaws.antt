-- What `_bases --after` may do stays within its limits for ideals of variables and differences of variables, also with `-g` and `--within`.
-- To cite: reduced_memory, continuations, continuations_within. The rest are steps.
use Rattle.std.proofs.Common.{◌≡◌, ℕ, ◌≤◌, ℤ, Bool, true, false, List, [], length, None, Contains, arith, refl, sym, ap, ◌∙◌, subst}
use Rattle.gf_exponents_theory.specs.Orders.{gains}
use Rattle.gf_exponents_theory.specs.SixOrders.{MonomialOrder}
use Rattle.gf_poly.specs.declared.error.PolyError.{PolyError}
use Rattle.gf_poly.specs.declared.error.PolyError.TheVariants as errors
use Rattle.gf_poly.specs.Polynomial.{Terms}
use Rattle.gf_poly.specs.Marking.{MarkedPolynomial, MarkedPolynomials, polys}
use Rattle.gf_ideal_theory.proofs.StepLaws.{taken}
use Rattle.gf_buchberger.specs.declared.queue.Strategy.TheVariants as strategies
use Rattle.gf_buchberger.specs.Pairs.{pairs_below}
use Rattle.gf_facets_theory.specs.Regions.{Region, all_positive}
use Rattle.gf_duality_theory.proofs.ListLaws.{none_in}
use Rattle.gf_reverse_theory.specs.Upward.{IsNodeIn}
use Rattle.gf_tree.specs.Ideals.{ideal_by, ideal_within}
use Rattle.gf_reduced.specs.Refusals.{of_poly}
use Rattle.gf_weights.specs.Refusals.{AreCertificatesFittingIn}
use Rattle.gf_binomials_theory.specs.Binomials.{AreBinomials, AreMarkedBinomials}
use Rattle.gf_binomial_bases_theory.proofs.LawsHold.{bases_of_binomials}
use Rattle.gf_binomial_calls_theory.proofs.LawsHold.{refusals_tell_no_overflow}
use Rattle.gf_front.specs.declared.refusal.Refusal.{Refusal}
use Rattle.gf_front.specs.declared.refusal.Refusal.TheVariants as refusals
use Rattle.gf_items.specs.Refusals.{IsOfTest}
use Rattle.gfan_common.specs.Causes.{of_basis, of_tree}
use Rattle.gfan_common.specs.CheckedSets.{of_check, IsSomeReductionRefusal}
use Rattle.gfan_lists.specs.declared.bases.ListOptions.{ListOptions}
use Rattle.gfan_lists.specs.Ways.{ways_by}
use Rattle.gf_lists_theory.specs.BasesList.{IsGivenIn}
use Rattle.gfan_lists.specs.Bases.{IsWithinLimit}
use Rattle.gf_lists_theory.specs.Starts.{StartsIn}
use Rattle.gfan_lists.specs.Within.{IsGivenRegionRootRefusal}
use Rattle.gfan_lists.specs.After.{Given, names_given, generators_given, IsUnrooted, IsBasisTaken, IsUnlisted}
use Rattle.gfan_lists.specs.GivenBasis.{IsGivenRootRefusal}
use Rattle.gfan_lists.specs.ListCommand.{IsWithinIn}
use Rattle.gfan_lists.proofs.AfterLaws.{taken_once, listed_refutes}
use Rattle.gfan_lists.proofs.GivenBasisLaws.{way_in_tree}
use Rattle.gfan_lists.proofs.RootLaws.{reducing_within}
use Rattle.gf_tree.specs.Refusals.{IsTreeRefusal}
use Rattle.gf_tree.proofs.RefusalLaws.{within_memory}
use Rattle.gfan_theory.specs.Differences.{AreDifferenceRows}
use Rattle.gfan_theory.specs.Linear.{IsLinear, AreLinearDifferences, IsLinearSet}
use Rattle.gfan_theory.specs.Continued.{IsLinearInput, ContinuationsStayWithinLimits, ContinuationsWithinStayWithinLimits}
use Rattle.gfan_theory.proofs.LinearRuns.{IsOfDegree, AreLinearMarked, plain, closed-degree, step_short, linear_ruled_runs}
use Rattle.gfan_theory.proofs.LinearBases.{region_members}
use Rattle.gfan_theory.proofs.LinearLimits.{search_in_four, certified}
use Rattle.gfan_theory.proofs.LinearChecks.{linear_checks_beside, set_differences}
use Rattle.gfan_theory.proofs.DifferenceLimits.{rows_small, regions_of_differences_fit}
use Rattle.gfan_theory.proofs.GivenLimits.{reduced_runs, basis_differences, reduced_within, given_everywhere}

-- reductions of such polynomials by such members
pub reduced_memory : (bs : List MarkedPolynomial) (fs : List Terms) (d : PolyError) → AreLinearMarked bs → AreMarkedBinomials (Contains bs) → AreBinomials fs →
    ((f : Terms) → Contains fs f → IsLinear f) → IsSomeReductionRefusal bs fs d → d ≡ errors.Memory
reduced_memory bs fs (errors.Overflow o) m two b l h = absurd (refusals_tell_no_overflow.reduction bs h.polynomial o two (b h.polynomial h.contained) h.cause)
reduced_memory bs fs (errors.Exponent o) m two b l h =
    let r = h.cause in
    let k = step_short bs 1 r.0.from r.0.at o.left o.right m (omega arith)
    (taken (Contains bs) (IsOfDegree 1) h.polynomial r.0.from (closed-degree 1 bs m) (l h.polynomial h.contained) r.0.reached).within r.0.sum in
    absurd (let w = r.1 in omega (arith, k, w))
reduced_memory bs fs errors.Memory m two b l h = refl

-- ---- the root of the list

input_differences : (from_basis : Bool) (v : Given from_basis) → IsLinearInput from_basis v →
    AreLinearDifferences (length (names_given from_basis v)) (generators_given from_basis v)
input_differences false v i = i.1
input_differences true v i = basis_differences (length v.0) v.1 i

-- for all positive weights
root_everywhere : (from_basis : Bool) (o : ListOptions) (v : Given from_basis) (r : Refusal) → o.limit ≡ None → 1 ≤ length (names_given from_basis v) →
    length (names_given from_basis v) ≤ 4 → IsLinearInput from_basis v → pairs_below (length (names_given from_basis v)) ≤ o.pairs →
    IsUnrooted from_basis false v (all_positive (length (names_given from_basis v))) o.pairs r → r ≡ refusals.Memory
root_everywhere false o v r unlimited some small i room h =
    h.2 ∙ ap of_basis (h.1.by_rule (linear_ruled_runs strategies.Degree MonomialOrder.deglex (length v.0) (generators_given false v) o.pairs tt i.0 i.1 room))
root_everywhere true o v r unlimited some small i room (IsGivenRootRefusal.at_basis h) =
    reducing_within v.1 i.set.binomials.variables r (reduced_within (length v.0) v.1 small i) h
root_everywhere true o v r unlimited some small i room (IsGivenRootRefusal.on_the_way u e g f h q) =
    let w = given_everywhere o (length v.0) v.1 unlimited some small i room in
    q ∙ ap of_tree (within_memory (ideal_by (length v.0) (polys v.1.items)) o.pairs e w.going.tree
    (subst (λ (m : ℕ). IsTreeRefusal (ideal_by m (polys v.1.items)) o.pairs e) i.variables (way_in_tree v.1 u o.pairs e i.set.binomials.variables f h)))

-- in a region
root_in_region : (from_basis : Bool) (o : ListOptions) (k : Region) (v : Given from_basis) (r : Refusal) → length (names_given from_basis v) ≤ 4 →
    IsLinearInput from_basis v → pairs_below (length (names_given from_basis v)) ≤ o.pairs → IsUnrooted from_basis true v k o.pairs r → r ≡ refusals.Memory
root_in_region false o k v r small i room h =
    h.2 ∙ ap of_basis (h.1.by_rule (linear_ruled_runs strategies.Degree (MonomialOrder.weighted (gains k.root)) (length v.0) (generators_given false v)
    o.pairs tt i.0 i.1 room))
root_in_region true o k v r small i room (IsGivenRegionRootRefusal.at_basis h) =
    reducing_within v.1 i.set.binomials.variables r (reduced_within (length v.0) v.1 small i) h
root_in_region true o k v r small i room (IsGivenRegionRootRefusal.at_root u g f h) =
    h.2 ∙ ap of_basis (h.1.by_rule (reduced_runs v.1 i.set u f (MonomialOrder.weighted (gains k.root)) o.pairs tt
    (subst (λ (m : ℕ). pairs_below m ≤ o.pairs) (sym i.variables) room)))

-- ---- after a basis

module _ (from_basis is_cut : Bool) (o : ListOptions) (k : Region) (v : Given from_basis) (s b : MarkedPolynomials) (unlimited : o.limit ≡ None)
    (small : length (names_given from_basis v) ≤ 4) (d : AreLinearDifferences (length (names_given from_basis v)) (generators_given from_basis v))
    (room : pairs_below (length (names_given from_basis v)) ≤ o.pairs) (q : s.variables ≡ length (names_given from_basis v)) (l : IsLinearSet s)
    (differ : AreDifferenceRows (length (names_given from_basis v)) k.rows) (t : IsBasisTaken k s b)
    (j : IsNodeIn (ideal_within (length (names_given from_basis v)) (generators_given from_basis v) k) b)
    (root_memory : (r : Refusal) → IsUnrooted from_basis is_cut v k o.pairs r → r ≡ refusals.Memory)
    (fit : o.certified ≡ true → (x : MarkedPolynomials) → IsGivenIn (length (names_given from_basis v)) k (generators_given from_basis v) x →
    AreCertificatesFittingIn x.variables k x.items) where
  abbrev n : ℕ
  n = length (names_given from_basis v)

  abbrev fs : List Terms
  fs = generators_given from_basis v

  -- the members of a basis of the ideal
  members : (c : MarkedPolynomials) → IsNodeIn (ideal_within n fs k) c → AreLinearMarked c.items
  members c i = plain c.items (region_members n fs k c.items d.forms i.basis)

  two : (c : MarkedPolynomials) → IsNodeIn (ideal_within n fs k) c → AreMarkedBinomials (Contains c.items)
  two c i = bases_of_binomials n fs c.items d.forms.variables d.binomials i.basis.reduced

  node : (c : MarkedPolynomials) → IsBasisTaken k s c → IsNodeIn (ideal_within n fs k) c
  node c a = subst (IsNodeIn (ideal_within n fs k)) (taken_once k s b c t a) j

  listed : (c root : MarkedPolynomials) (r : Refusal) → IsBasisTaken k s c → StartsIn n k fs root → IsUnlisted fs s root c r → r ≡ refusals.Memory
  listed c root r a f (IsUnlisted.at_basis i g h e) =
      absurd (listed_refutes n k fs s root c q f a (node c a) r (subst IsOfTest (sym e) tt) (IsUnlisted.at_basis i g h e))
  listed c root r a f (IsUnlisted.at_generator i g u h e) =
      absurd (listed_refutes n k fs s root c q f a (node c a) r (subst IsOfTest (sym e) tt) (IsUnlisted.at_generator i g u h e))
  listed c root r a f (IsUnlisted.in_basis x h e) =
      let own = set_differences s l in
      e ∙ ap (λ z. of_check (of_poly z))
      (reduced_memory root.items (polys s.items) x (members root f.node) (two root f.node) own.binomials own.forms.linear h)
  listed c root r a f (IsUnlisted.in_generators x h e) =
      e ∙ ap (λ z. of_check (of_poly z)) (reduced_memory c.items fs x (members c (node c a)) (two c (node c a)) d.binomials d.forms.linear h)

  after : (rows : List (List ℤ)) → IsWithinIn (ways_by from_basis is_cut true) o k (rows, ((names_given from_basis v, s), v))
  after rows = record {
    start = record {
      weight = t.weight;
      basis = t.basis.basis.marked;
      reduced = t.terms;
      checks = linear_checks_beside s l k.rows (subst (λ (m : ℕ). AreDifferenceRows m k.rows) (sym q) differ) (omega (arith, small, q));
      root = root_memory;
      listed = listed;
      tree = search_in_four (ideal_within n fs k) o.pairs d small (rows_small n k.rows 10 (omega arith) differ) room;
    };
    tree = search_in_four (ideal_within n fs k) o.pairs d small (rows_small n k.rows 10 (omega arith) differ) room;
    few = λ front list a all. subst (λ m. IsWithinLimit m list) (sym unlimited) tt;
    certificates = fit;
  }

pub continuations : ContinuationsStayWithinLimits
continuations from_basis o v s b unlimited some small i room q l t j = record {
  region = λ c. absurd (let no : false ≡ true = c in cc);
  names = refl;
  list = λ k e. subst (λ (z : Region). IsWithinIn (ways_by from_basis false true) o z ([], ((names_given from_basis v, s), v))) (sym e)
      (after from_basis false o (all_positive (length (names_given from_basis v))) v s b unlimited small (input_differences from_basis v i) room q l
      (λ row c. absurd (none_in row c)) t j (λ r h. root_everywhere from_basis o v r unlimited some small i room h)
      (λ c x g. certified (length (names_given from_basis v)) (generators_given from_basis v) x some small (input_differences from_basis v i) g) []);
}

pub continuations_within : ContinuationsWithinStayWithinLimits
continuations_within from_basis o rows w v s b unlimited bare some small few differ inside i room q l stands = record {
  region = λ c. regions_of_differences_fit (length (names_given from_basis v)) rows w some small few differ inside;
  names = refl;
  list = λ k e. after from_basis true o k v s b unlimited small (input_differences from_basis v i) room q l
      (subst (AreDifferenceRows (length (names_given from_basis v))) (sym e.same) differ) (stands k e).0 (stands k e).1
      (λ r h. root_in_region from_basis o k v r small i room h) (λ c. absurd (let no : false ≡ true = sym bare ∙ c in cc)) rows;
}
