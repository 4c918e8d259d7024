-- What `_bases -g` may do stays within its limits for marked Gröbner bases of variables and differences of variables, also in regions.
-- To cite: reduced_runs, tails_memory, basis_differences, reduced_within, given_everywhere, given_lists. The rest are steps.
use Rattle.std.proofs.Common.{◌≡◌, ℕ, ◌≤◌, true, false, List, length, map, None, Some, Contains, ℤ, arith, refl, sym, ◌∙◌, subst, inl, inr, replicate}
use Rattle.std.proofs.lemmas.List.Elements.{All-nil}
use Rattle.std.proofs.lemmas.List.Sorted.{Contains-permutation, IsPermutation-sym}
use Rattle.gf_exponents_theory.specs.Orders.{gains}
use Rattle.gf_exponents_theory.specs.SixOrders.{MonomialOrder}
use Rattle.gf_poly.specs.declared.error.PolyError.{PolyError}
use Rattle.gf_poly.specs.declared.error.PolyError.TheVariants as errors
use Rattle.gf_poly.specs.Polynomial.{Terms, HasVariables}
use Rattle.gf_poly.specs.Marking.{MarkedPolynomial, MarkedPolynomials, polys, IsArranged}
use Rattle.gf_ideal_theory.specs.Membership.{HasMonomial}
use Rattle.gf_ideal_theory.specs.MonomialOrders.{IsAdmissible}
use Rattle.gf_ideal_theory.proofs.ListedTerms.{variables_by_terms}
use Rattle.gf_ideal_theory.proofs.PieceLaws.{Contains-marked}
use Rattle.gf_ideal_theory.proofs.StepLaws.{monic-monomials}
use Rattle.gf_division.specs.Autoreduction.{AreNeededForms, IsAutoreductionRefusal}
use Rattle.gf_buchberger.specs.declared.queue.Strategy.TheVariants as strategies
use Rattle.gf_buchberger.specs.Tasks.{HaveRingVariables}
use Rattle.gf_buchberger.specs.Pairs.{pairs_below}
use Rattle.gf_buchberger.specs.Ruled.{AreRuledRunsWithinLimits}
use Rattle.gf_gordan.specs.Sizes.{HaveEntriesUpTo}
use Rattle.gf_reduced.specs.Forms.{monic_of, monic_set}
use Rattle.gf_facets_theory.specs.Regions.{IsInRegion, all_positive}
use Rattle.gf_reverse_theory.specs.Upward.{IsNodeIn}
use Rattle.gf_tree.specs.Ideals.{ideal_by, ideal_within}
use Rattle.gf_binomials_theory.specs.Binomials.{IsBinomial, AreMarkedBinomials}
use Rattle.gf_binomial_bases_theory.proofs.LawsHold.{bases_of_binomials}
use Rattle.gf_binomial_calls_theory.proofs.LawsHold.{refusals_tell_no_overflow}
use Rattle.gfan_lists.specs.declared.bases.ListOptions.{ListOptions}
use Rattle.gfan_lists.specs.Bases.{IsWithinLimit}
use Rattle.gfan_lists.specs.GivenBasis.{IsReducedFrom}
use Rattle.gfan_lists.specs.ListCommand.{IsReducedWithin}
use Rattle.gfan_theory.specs.Inputs.{AreGivenRegionListsWithin}
use Rattle.gfan_theory.proofs.InputLaws.{GivenListLimits, given_lists_within, given_regions_within}
use Rattle.gf_lists_theory.proofs.BasesListLaws.{given_node}
use Rattle.gfan_theory.specs.Differences.{AreDifferenceRows}
use Rattle.gfan_theory.specs.Linear.{AreLinearDifferences, IsLinearSet}
use Rattle.gfan_theory.specs.Continued.{IsLinearBasis, GivenListsStayWithinLimits}
use Rattle.gfan_theory.proofs.LinearRuns.{AreLinearMembers, AreLinearMarked, step_short, tail_linear, linear_ruled_runs}
use Rattle.gfan_theory.proofs.LinearBases.{region_members}
use Rattle.gfan_theory.proofs.LinearLimits.{search_in_four, certified}
use Rattle.gfan_theory.proofs.LinearChecks.{forms_marked, linear_checks, set_differences}
use Rattle.gfan_theory.proofs.DifferenceLimits.{rows_small, regions_of_differences_fit}

-- ---- the reduction of the set

module _ (s : MarkedPolynomials) (l : IsLinearSet s) (t : MarkedPolynomials) (a : IsArranged (monic_set s) t) where
  needed_linear : (ks : List MarkedPolynomial) → AreNeededForms t.items ks → AreLinearMarked ks
  needed_linear ks m = record {
    heads = λ c i. let e = m.inside c i in
        (forms_marked s l).within e.member (there e.member (e.index, e.needed.at.within, e.needed.at.is)) c.head e.form.form.there;
    within = λ c i x h. let e = m.inside c i in
        (forms_marked s l).within e.member (there e.member (e.index, e.needed.at.within, e.needed.at.is)) x (monic-monomials e.member.poly c e.form.form x h);
  }
    where
      there : (b : MarkedPolynomial) → Contains t.items b → Contains (map monic_of s.items) b
      there b c = Contains-permutation t.items (map monic_of s.items) b (IsPermutation-sym (map monic_of s.items) t.items a.members) c

  pub tails_memory : (e : PolyError) → IsAutoreductionRefusal t.items e → e ≡ errors.Memory
  tails_memory (errors.Overflow o) r = absurd (refusals_tell_no_overflow.monic_forms s t o l.binomials a r)
  tails_memory (errors.Exponent o) (inl k) = absurd k.0
  tails_memory (errors.Exponent o) (inr (ks, m, k)) =
      let i = needed_linear ks m in
      absurd (let p = step_short ks 1 k.0.from.poly k.0.at o.left o.right i (omega arith) (tail_linear ks k.0.from i k.0.tail) k.0.sum in let w = k.1 in
      omega (arith, p, w))
  tails_memory errors.Memory r = refl

-- ---- the reduced basis

module _ (s : MarkedPolynomials) (l : IsLinearSet s) (u : MarkedPolynomials) (f : IsReducedFrom s u) where
  node : IsNodeIn (ideal_by s.variables (polys s.items)) u
  node = given_node s.variables (polys s.items) u (set_differences s l).forms.variables f.given

  members : AreLinearMembers u.items
  members = region_members s.variables (polys s.items) (all_positive s.variables) u.items (set_differences s l).forms node.basis

  two : AreMarkedBinomials (Contains u.items)
  two = bases_of_binomials s.variables (polys s.items) u.items (set_differences s l).forms.variables (set_differences s l).binomials node.basis.reduced

  long : (b : MarkedPolynomial) → Contains u.items b → HasVariables s.variables b.poly
  long b c = (node.basis.arranged.canonical b c).variables

  reduced_ring : HaveRingVariables s.variables (polys u.items)
  reduced_ring = record { each = λ g c. let m = Contains-marked u.items g c in subst (HasVariables s.variables) m.2 (long m.0 m.1) }

  reduced_differences : AreLinearDifferences s.variables (polys u.items)
  reduced_differences = record {
    forms = record {
      variables = λ g c. variables_by_terms s.variables g (reduced_ring.each g c);
      linear = λ g c x h. let m = Contains-marked u.items g c in members.within m.0 m.1 x (subst (λ (z : Terms). HasMonomial z x) (sym m.2) h);
    };
    binomials = λ g c. let m = Contains-marked u.items g c in
        subst IsBinomial m.2 (record { first = Some m.0.head; second = (two m.0 m.1).tail; binomial = (two m.0 m.1).binomial });
  }

  -- runs on its members
  pub reduced_runs : (order : MonomialOrder) (budget : ℕ) → IsAdmissible order s.variables (replicate s.variables 1) → pairs_below s.variables ≤ budget →
      AreRuledRunsWithinLimits strategies.Degree order (polys u.items) budget
  reduced_runs order budget a room = linear_ruled_runs strategies.Degree order s.variables (polys u.items) budget a reduced_ring reduced_differences room

-- ---- lists

pub basis_differences : (n : ℕ) (s : MarkedPolynomials) → IsLinearBasis n s → AreLinearDifferences n (polys s.items)
basis_differences n s b = subst (λ (m : ℕ). AreLinearDifferences m (polys s.items)) b.variables (set_differences s b.set)

-- the checks of the set and its reduction
pub reduced_within : (n : ℕ) (s : MarkedPolynomials) → n ≤ 4 → IsLinearBasis n s → IsReducedWithin s
reduced_within n s small b = record {
  basis = b.basis;
  checks = linear_checks s b.set (let q = b.variables in omega (arith, q, small));
  tails = λ t d a h. tails_memory s b.set t a d h;
}

pub given_everywhere : (o : ListOptions) (n : ℕ) (s : MarkedPolynomials) → o.limit ≡ None → 1 ≤ n → n ≤ 4 → IsLinearBasis n s → pairs_below n ≤ o.pairs →
    GivenListLimits o n s
given_everywhere o n s unlimited some small b room = record {
  variables = b.set.binomials.variables;
  same = b.variables;
  reduced = reduced_within n s small b;
  going = record {
    tree = search_in_four (ideal_by n (polys s.items)) o.pairs (basis_differences n s b) small (All-nil _) room;
    few = λ list all. subst (λ l. IsWithinLimit l list) (sym unlimited) tt;
    certificates = λ c x g. certified n (polys s.items) x some small (basis_differences n s b) g;
  };
}

given_regions : (o : ListOptions) (n : ℕ) (rows : List (List ℤ)) (v : List ℤ) (s : MarkedPolynomials) → o.limit ≡ None → o.certified ≡ false → 1 ≤ n → n ≤ 4 →
    length rows ≤ 3 → AreDifferenceRows n rows → IsInRegion n (record { rows = rows; root = v }) v → IsLinearBasis n s → pairs_below n ≤ o.pairs →
    AreGivenRegionListsWithin o n rows s
given_regions o n rows v s unlimited plain some small few differ inside b room = given_regions_within o n rows s (record {
  region = regions_of_differences_fit n rows v some small few differ inside;
  reduced = reduced_within n s small b;
  root = λ k u i f. reduced_runs s b.set u f (MonomialOrder.weighted (gains k.root)) o.pairs tt
      (subst (λ (m : ℕ). pairs_below m ≤ o.pairs) (sym b.variables) room);
  going = λ k i. record {
    tree = search_in_four (ideal_within n (polys s.items) k) o.pairs (basis_differences n s b) small
        (subst (HaveEntriesUpTo 10) (sym i.same) (rows_small n rows 10 (omega arith) differ)) room;
    few = λ list all. subst (λ l. IsWithinLimit l list) (sym unlimited) tt;
    certificates = λ c. absurd (let no : false ≡ true = sym plain ∙ c in cc);
  };
})

pub given_lists : GivenListsStayWithinLimits
given_lists = record {
  everywhere = λ o n s unlimited some small b room. given_lists_within o n s (given_everywhere o n s unlimited some small b room);
  regions = given_regions;
}
