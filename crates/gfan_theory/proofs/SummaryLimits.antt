-- `_generated` stays within its limits for numbers whose generators are differences of variables.
-- To cite: summaries. The rest are steps.
use Rattle.std.proofs.Common.{◌≡◌, ℕ, zero, suc, ◌+◌, ◌*◌, ◌≤◌, ◌%◌, List, [], ◌∷◌, Contains, ℤ, arith, refl, sym, ap, ◌∙◌, subst, inl, inr}
use Rattle.std.proofs.lemmas.List.Elements.{All-nil}
use Rattle.std.proofs.lemmas.Slice.Zip.{AllZip-long}
use Rattle.std.specs.declared.cmp.Ordering.{Ordering}
use Rattle.std.specs.declared.cmp.Ordering.TheVariants.{Less, Equal, Greater}
use Rattle.gf_exponents_theory.specs.Exponents.{Exponents, degree}
use Rattle.gf_exponents_theory.specs.Orders.{deglex}
use Rattle.gf_exponents_theory.specs.SixOrders.{MonomialOrder}
use Rattle.gf_exponents_theory.proofs.WeightLaws.{degree-same}
use Rattle.gf_vec.specs.Vector.{zeros}
use Rattle.gf_vec.specs.declared.error.WideVector.{WideVector}
use Rattle.gf_gordan.proofs.SizeLaws.{UpTo, up_zeros}
use Rattle.gf_poly.specs.declared.Term.{Term}
use Rattle.gf_poly.specs.Polynomial.{Terms}
use Rattle.gf_poly.specs.Marking.{MarkedPolynomials, Each}
use Rattle.gf_ideal_theory.proofs.ListLaws.{contained_each}
use Rattle.gf_ideal_theory.proofs.ListedTerms.{by_terms, variables_by_terms}
use Rattle.gf_duality_theory.proofs.ListLaws.{none_in, zip_from}
use Rattle.gf_buchberger.specs.declared.queue.Strategy.TheVariants as strategies
use Rattle.gf_buchberger.specs.Tasks.{HaveRingVariables}
use Rattle.gf_buchberger.specs.Pairs.{pairs_below}
use Rattle.gf_facets_theory.specs.Regions.{all_positive}
use Rattle.gf_facets_theory.proofs.SystemLaws.{all_positive-region}
use Rattle.gf_tree.specs.Ideals.{ideal_by}
use Rattle.gf_tree.proofs.RefusalLaws.{within_memory}
use Rattle.gf_reverse_search.specs.Listing.{Among}
use Rattle.gf_subtree.proofs.BasisRowLaws.{early_refused}
use Rattle.gf_weights.specs.Weights.{IsPrintedWeight}
use Rattle.gf_weights.specs.Refusals.{IsWeightCause, AreCertificatesFittingIn}
use Rattle.gf_weights.specs.declared.error.WeightError.{WeightError}
use Rattle.gf_weights.specs.declared.error.WeightError.TheVariants as weight_errors
use Rattle.gf_front.specs.declared.refusal.Refusal.{Refusal}
use Rattle.gf_front.specs.declared.refusal.Refusal.TheVariants as refusals
use Rattle.gf_generated.specs.Generated.{number_after, rest_by_three, in_order, difference, generated_set}
use Rattle.gf_generated.proofs.GeneratedLaws.{generators_are_binomials}
use Rattle.gfan_common.specs.Causes.{of_basis, of_tree, of_weight_error}
use Rattle.gf_lists_theory.specs.BasesList.{IsGivenIn}
use Rattle.gf_lists_theory.proofs.BasesListLaws.{among_left, among_right, given_in_node}
use Rattle.gfan_generated.specs.Generated.{IsSumRefused, IsSummaryCause}
use Rattle.gfan_theory.specs.Linear.{IsLinear, AreLinearDifferences}
use Rattle.gfan_theory.specs.Summaries.{HasNoRests, SummariesStayWithinLimits}
use Rattle.gfan_theory.proofs.BinaryRays.{no_wide_sums}
use Rattle.gfan_theory.proofs.DifferenceLimits.{weight_up}
use Rattle.gfan_theory.proofs.LinearRuns.{linear_ruled_runs}
use Rattle.gfan_theory.proofs.LinearNormals.{linear_normals}
use Rattle.gfan_theory.proofs.LinearLimits.{search_in_four, certified}

-- ---- generators

linear_terms : (f : Terms) → Each (λ (t : Term). degree t.mono ≡ 1) f → IsLinear f
linear_terms f h x m = by_terms (λ (z : Exponents). degree z ≡ 1) f (λ a b s e. sym (degree-same a b s) ∙ e) h x m

in_order_linear : (o : Ordering) (s t : Term) → degree s.mono ≡ 1 → degree t.mono ≡ 1 → IsLinear (in_order o s t)
in_order_linear Less s t p q = linear_terms (t ∷ s ∷ []) (q, (p, tt))
in_order_linear Equal s t p q = linear_terms [] tt
in_order_linear Greater s t p q = linear_terms (s ∷ t ∷ []) (p, (q, tt))

difference_linear : (x y : Exponents) → degree x ≡ 1 → degree y ≡ 1 → IsLinear (difference x y)
difference_linear x y p q = in_order_linear (deglex x y) _ _ p q

set_linear : (k : ℕ) → HasNoRests k → Each IsLinear (generated_set k)
set_linear k h =
    let r1 = h 1 (omega arith) (omega arith) in
    let r2 = h 2 (omega arith) (omega arith) in
    let r3 = h 3 (omega arith) (omega arith) in
    let r4 = h 4 (omega arith) (omega arith) in
    let r5 = h 5 (omega arith) (omega arith) in
    let r6 = h 6 (omega arith) (omega arith) in
    let r7 = h 7 (omega arith) (omega arith) in
    let r8 = h 8 (omega arith) (omega arith) in
    let r9 = h 9 (omega arith) (omega arith) in
    let r10 = h 10 (omega arith) (omega arith) in
    let r11 = h 11 (omega arith) (omega arith) in
    let r12 = h 12 (omega arith) (omega arith) in (
      difference_linear ((1 + rest_by_three k 1) ∷ 0 ∷ rest_by_three k 2 ∷ rest_by_three k 3 ∷ []) (0 ∷ (1 + rest_by_three k 4) ∷ 0 ∷ 0 ∷ [])
          (omega (arith, r1, r2, r3)) (omega (arith, r4)),
      (
        difference_linear (rest_by_three k 7 ∷ (1 + rest_by_three k 5) ∷ 0 ∷ rest_by_three k 6 ∷ []) (0 ∷ 0 ∷ (1 + rest_by_three k 8) ∷ 0 ∷ [])
            (omega (arith, r5, r6, r7)) (omega (arith, r8)),
        (
          difference_linear (rest_by_three k 10 ∷ rest_by_three k 11 ∷ (1 + rest_by_three k 9) ∷ 0 ∷ []) (0 ∷ 0 ∷ 0 ∷ (1 + rest_by_three k 12) ∷ [])
              (omega (arith, r9, r10, r11)) (omega (arith, r12)),
          tt,
        ),
      ),
    )

ring_of_set : (k : ℕ) → HaveRingVariables 4 (generated_set k)
ring_of_set k = record { each = generators_are_binomials.variables k }

set_differences : (k : ℕ) → HasNoRests k → AreLinearDifferences 4 (generated_set k)
set_differences k h = record {
  forms = record {
    variables = λ f c. variables_by_terms 4 f (generators_are_binomials.variables k f c);
    linear = λ f c. contained_each IsLinear (generated_set k) (set_linear k h) f c;
  };
  binomials = generators_are_binomials.binomials k;
}

-- ---- the summary of such an ideal

module _ (fs : List Terms) (limit pairs : ℕ) (ring : HaveRingVariables 4 fs) (d : AreLinearDifferences 4 fs) (low : limit ≤ 1000000000000)
    (room : pairs_below 4 ≤ pairs) where
  -- a weight is worked out within its limits
  weight_memory : (b : MarkedPolynomials) → IsGivenIn 4 (all_positive 4) fs b → (e : WeightError) → IsWeightCause b.variables b.items e →
      e ≡ weight_errors.Memory
  weight_memory b g e = at e
    where
      fits : AreCertificatesFittingIn b.variables (all_positive b.variables) b.items
      fits = subst (λ (m : ℕ). AreCertificatesFittingIn b.variables (all_positive m) b.items) (sym g.variables)
          (certified 4 fs b (omega arith) (omega arith) d g)

      at : (e : WeightError) → IsWeightCause b.variables b.items e → e ≡ weight_errors.Memory
      at (weight_errors.Cone o) h = fits (weight_errors.Cone o) h
      at (weight_errors.Wide w) h = fits (weight_errors.Wide w) (inl h)
      at weight_errors.Memory h = refl

  -- and is small
  printed_up : (b : MarkedPolynomials) (w : List ℤ) → IsGivenIn 4 (all_positive 4) fs b → IsPrintedWeight b.variables b.items w → UpTo 16 w
  printed_up b w g p =
      let q : IsPrintedWeight 4 b.items w = subst (λ (m : ℕ). IsPrintedWeight m b.items w) g.variables p in
      let node = given_in_node 4 (all_positive 4) fs b d.forms.variables (all_positive-region 4) g in
      weight_up 4 (all_positive 4) b.items (omega arith) (omega arith) (λ row k. absurd (none_in row k))
      (λ normals m. let r = linear_normals 4 fs (all_positive 4) b.items d node.basis normals m (omega arith) in (let l = r.0 in omega (arith, l), r.1)) w q

  among : (xs : List MarkedPolynomials) (x : MarkedPolynomials) → Contains xs x → Among xs x
  among [] x c = absurd (none_in x c)
  among (y ∷ xs) x (zero, l, e) = inl e
  among (y ∷ xs) x (suc i, l, e) = inr (among xs x (i, omega (arith, l), e))

  no_wide_weights : (e : WideVector) → IsSumRefused limit fs e → ⊥
  no_wide_weights e h =
      no_wide_sums 16 0 (zeros 4) h.weights e (up_zeros 0 4)
      (λ w c. let t = zip_from (λ (b : MarkedPolynomials) (v : List ℤ). IsPrintedWeight b.variables b.items v) h.summed h.weights w h.are_weights c in
      printed_up t.0 w (h.are_all.only t.0 (among_left h.summed h.rest t.0 (among h.summed t.0 t.1.0))) t.1.1)
      (let l = AllZip-long (λ (b : MarkedPolynomials) (v : List ℤ). IsPrintedWeight b.variables b.items v) h.summed h.weights h.are_weights in
      let f = h.few in omega (arith, l, f, low)) h.wide

  memory : (r : Refusal) → IsSummaryCause limit pairs fs r → r ≡ refusals.Memory
  memory r (IsSummaryCause.at_root e h q) =
      q ∙ ap of_basis (h.by_rule (linear_ruled_runs strategies.Degree MonomialOrder.deglex 4 fs pairs tt ring d room))
  memory r (IsSummaryCause.in_tree e h q) =
      q ∙ ap of_tree (within_memory (ideal_by 4 fs) pairs e (search_in_four (ideal_by 4 fs) pairs d (omega arith) (All-nil _) room)
      (early_refused (ideal_by 4 fs) pairs h.rest e h.early))
  memory r (IsSummaryCause.at_weight e h q) =
      q ∙ ap of_weight_error (weight_memory h.basis (h.are_all.only h.basis (among_right h.before (h.basis ∷ h.rest) h.basis (inl refl))) e h.cause)
  memory r (IsSummaryCause.at_sum e h q) = absurd (no_wide_weights e h)

-- ---- 0

zero_after : (i : ℕ) → number_after 0 i ≡ 0
unfolding number_after
zero_after zero = refl
zero_after (suc i) = ap (λ (t : ℕ). 48271 * t % 2147483647) (zero_after i)

pub summaries : SummariesStayWithinLimits
summaries = record {
  numbers = λ number limit pairs h low room. memory (generated_set number) limit pairs (ring_of_set number) (set_differences number h) low room;
  zero = λ i l m. ap (λ (t : ℕ). t % 3) (zero_after i);
}
