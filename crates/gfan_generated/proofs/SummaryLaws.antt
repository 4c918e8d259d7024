-- How `_generated` sums up a list: how that begins, goes on, ends and is refused.
-- To cite: weight_long; IsSummingUp, starts, step_variables, below_limit, goes_on, past_limit, ends, refused_in_tree, refused_at_basis;
-- unnamed_unsummed, summary_answers, summary_refuses, root_refuses; generated_lawful, generated_ring, generated_begins, generated_start, one_summary,
-- four_pieces.
-- The rest are steps.
use Rattle.std.specs.Prelude.{◌≡◌, ◌≢◌, ◌⊎◌, ℕ, ◌<◌, ◌≤◌, nat_le, max, min, true, false, List, [], ◌∷◌, ◌++◌, length, take, map, ℤ}
use Rattle.std.specs.Global.{Global}
use Rattle.std.proofs.Common.{arith, refl, sym, ap, ap₂, ◌∙◌, subst, inl, inr, append_assoc, append-nil, length-append}
use Rattle.std.proofs.lemmas.Bool.{cases_lt}
use Rattle.std.proofs.lemmas.List.{take_all, take-append-le, map-append}
use Rattle.gf_vec.specs.Vector.{zeros, vector_sum}
use Rattle.gf_vec.specs.Steps.{sum_steps, NoneWide, IsFirstWide}
use Rattle.gf_vec.specs.declared.error.WideVector.{WideVector}
use Rattle.gf_poly.specs.Polynomial.{Terms}
use Rattle.gf_poly.specs.Marking.{MarkedPolynomial, MarkedPolynomials, polys}
use Rattle.gf_ideal_theory.specs.Membership.{AreInVariables}
use Rattle.gf_duality_theory.proofs.RaySums.{sum_long}
use Rattle.std.proofs.lemmas.List.Elements.{All-contains}
use Rattle.gf_rays.specs.Sums.{adding_steps}
use Rattle.gf_rays.proofs.SumLaws.{none_append, none_left, none_right, first_before, first_after}
use Rattle.gf_vec.proofs.VectorLaws.{length-plus}
use Rattle.gf_buchberger.specs.Tasks.{HaveRingVariables}
use Rattle.gf_buchberger.proofs.TaskLaws.{ring_variables}
use Rattle.gf_reverse_search.specs.Whole.{IsFinite}
use Rattle.gf_facets_theory.specs.Regions.{Region, all_positive}
use Rattle.gf_facets_theory.specs.LexPositive.{IsBefore}
use Rattle.gf_reverse_theory.specs.Upward.{IsNode, IsNodeIn, IsParent, fan_of}
use Rattle.gf_reverse_theory.proofs.TreeLaws.{SameFan, count, upward_finite, node_moved, own_fan, back_fan}
use Rattle.gfan_lists.specs.TreeError.{TreeError}
use Rattle.gfan_lists.specs.Ideals.{ideal_by}
use Rattle.gf_subtree.specs.Rows.{Row, ideal_in, AreLeftIn, first_row}
use Rattle.gf_subtree.specs.Answers.{IsNextRow, IsRowEnd, IsRefusedEarly}
use Rattle.gf_subtree.proofs.BasisRowLaws.{start_leaves, early_moved}
use Rattle.gf_small.specs.Degrees.{greatest}
use Rattle.gf_small.specs.Counts.{degree_of_set}
use Rattle.gf_small.proofs.CountsLaws.{greatest-push}
use Rattle.gf_weights.specs.Weights.{IsPrintedWeight}
use Rattle.gf_weights.proofs.UniqueLaws.{one_weight}
use Rattle.gf_front.specs.declared.options.GeneratedOptions.{GeneratedOptions}
use Rattle.gf_front.specs.declared.refusal.Refusal.{Refusal}
use Rattle.gf_front.specs.declared.refusal.Refusal.TheVariants as refusals
use Rattle.gf_items.specs.Refusals.{IsOfWork, IsOfTest}
use Rattle.gf_frame.specs.Commands.{IsUnanswered, IsAnswered, IsRefusedOn}
use Rattle.gf_frame.proofs.CommandLaws.{IsLawful}
use Rattle.gf_frame.proofs.ReadingLaws.{none_once}
use Rattle.gf_frame.proofs.SoundLaws.{IsExactCommand, untested, sound_lawful}
use Rattle.gf_generated.specs.Generated.{generated_set}
use Rattle.gf_generated.proofs.GeneratedLaws.{generators_are_binomials}
use Rattle.gfan_generated.specs.declared.Summary.{Summary}
use Rattle.gf_lists_theory.specs.BasesList.{AreAllBases}
use Rattle.gfan_common.specs.Causes.{of_tree}
use Rattle.gfan_lists.specs.Bases.{IsRootRefusal}
use Rattle.gf_lists_theory.specs.Starts.{IsFirstBasis, StartsAt}
use Rattle.gfan_common.specs.Refused.{IsUnnamed, without_names}
use Rattle.gfan_generated.specs.Generated.{ArePrintedWeights, added, summary_text, IsSummaryText, IsSummaryCause, summary_command, generated_command}
use Rattle.gfan_generated.specs.Summaries.{IsOfNoBasis, IsWithBasis, IsWideSum, IsUnsummed, IsSummary}
use Rattle.gfan_generated.specs.OneSummary.{SummariesAreOne}
use Rattle.gf_lists_theory.proofs.BasesListLaws.{first_node, first_own, own_start, all_bases_from}
use Rattle.gf_lists_theory.proofs.OneListLaws.{one_list}
use Rattle.gfan_lists.proofs.CertificateLaws.{AllZip-append}
use Rattle.gfan_common.proofs.CauseLaws.{weight_work, weight_untested, tree_work, tree_untested, basis_work, basis_not_listed, basis_untested, tree_not_listed}
use Rattle.gfan_common.proofs.CauseLaws.{unnamed_weight, weight_not_listed}
use Rattle.std.specs.List.{concat}
use Rattle.gf_text.specs.declared.written.Written.TheVariants as written
use Rattle.gf_text.proofs.SetTokensLaws.{le_test, le_false}

-- ---- sums of weights

-- a printed weight has an entry for each variable
pub weight_long : (n : ℕ) (bs : List MarkedPolynomial) (v : List ℤ) → IsPrintedWeight n bs v → length v ≡ n
weight_long n bs v p = ap length p.sum ∙ sum_long n p.rays (λ x c. All-contains (λ t. length t ≡ n) p.rays x p.cut.are_rays.rays_width c)

-- one more of these vectors
added_push : (s : List ℤ) (xs : List (List ℤ)) (x : List ℤ) → added s (xs ++ x ∷ []) ≡ vector_sum (added s xs) x
added_push s [] x = refl
added_push s (y ∷ xs) x = added_push (vector_sum s y) xs x

none_push : (s : List ℤ) (xs : List (List ℤ)) (x : List ℤ) → NoneWide (adding_steps s xs) → NoneWide (sum_steps (added s xs) x) →
    NoneWide (adding_steps s (xs ++ x ∷ []))
none_push s [] x f g = none_append (sum_steps s x) [] g tt
none_push s (y ∷ xs) x f g =
    none_append (sum_steps s y) (adding_steps (vector_sum s y) (xs ++ x ∷ [])) (none_left (sum_steps s y) (adding_steps (vector_sum s y) xs) f)
    (none_push (vector_sum s y) xs x (none_right (sum_steps s y) (adding_steps (vector_sum s y) xs) f) g)

first_push : (s : List ℤ) (xs : List (List ℤ)) (x : List ℤ) (e : WideVector) → NoneWide (adding_steps s xs) → IsFirstWide e (sum_steps (added s xs) x) →
    IsFirstWide e (adding_steps s (xs ++ x ∷ []))
first_push s [] x e f g = first_before e (sum_steps s x) [] g
first_push s (y ∷ xs) x e f g =
    first_after e (sum_steps s y) (adding_steps (vector_sum s y) (xs ++ x ∷ [])) (none_left (sum_steps s y) (adding_steps (vector_sum s y) xs) f)
    (first_push (vector_sum s y) xs x e (none_right (sum_steps s y) (adding_steps (vector_sum s y) xs) f) g)

-- the sum of these vectors, no partial sum of which left the range
pub record IsSumOf (ws : List (List ℤ)) (s : List ℤ) : Type 0 where
  pub value : s ≡ added (zeros 4) ws
  pub long : length s ≡ 4
  pub none : NoneWide (adding_steps (zeros 4) ws)

none_summed : (s : List ℤ) → s ≡ zeros 4 → IsSumOf [] s
none_summed s e = record { value = e; long = ap length e; none = tt }

module _ (ws : List (List ℤ)) (s w : List ℤ) (g : IsSumOf ws s) where
  -- one more
  sum_next : (next : List ℤ) → length w ≡ 4 → next ≡ vector_sum s w → NoneWide (sum_steps s w) → IsSumOf (ws ++ w ∷ []) next
  sum_next next l e f = record {
    value = e ∙ ap (λ t. vector_sum t w) g.value ∙ sym (added_push (zeros 4) ws w);
    long = ap length e ∙ length-plus s w (g.long ∙ sym l) ∙ g.long;
    none = none_push (zeros 4) ws w g.none (subst (λ t. NoneWide (sum_steps t w)) g.value f);
  }

  -- with which a sum leaves the range
  sum_leaves : (e : WideVector) → IsFirstWide e (sum_steps s w) → IsFirstWide e (adding_steps (zeros 4) (ws ++ w ∷ []))
  sum_leaves e f = first_push (zeros 4) ws w e g.none (subst (λ t. IsFirstWide e (sum_steps t w)) g.value f)

-- ---- summaries of bases

-- these bases are summed up
pub record AreSummed (bs : List MarkedPolynomials) (s : Summary) : Type 0 where
  pub bases : s.bases ≡ length bs
  pub degree : s.degree ≡ greatest (map degree_of_set bs)
  pub weights : List (List ℤ)
  pub are_weights : ArePrintedWeights bs weights
  pub sum : IsSumOf weights s.weights
  pub complete : s.complete ≡ true

none_told : (s : Summary) → IsOfNoBasis s → AreSummed [] s
none_told s h = record { bases = h.bases; degree = h.degree; weights = []; are_weights = tt; sum = none_summed s.weights h.weights; complete = h.complete }

one_told : (bs : List MarkedPolynomials) (b : MarkedPolynomials) (old new : Summary) → b.variables ≡ 4 → AreSummed bs old → IsWithBasis old b new →
    AreSummed (bs ++ b ∷ []) new
one_told bs b old new v t h = record {
  bases = h.bases ∙ omega (arith, t.bases, length-append bs (b ∷ []));
  degree = h.degree ∙ ap (λ k. max k (degree_of_set b)) t.degree ∙ sym (greatest-push (map degree_of_set bs) (degree_of_set b)) ∙ ap greatest
      (sym (map-append degree_of_set bs (b ∷ [])));
  weights = t.weights ++ h.weight ∷ [];
  are_weights = AllZip-append (λ b w. IsPrintedWeight b.variables b.items w) bs (b ∷ []) t.weights (h.weight ∷ []) t.are_weights (h.is_weight, tt);
  sum = sum_next t.weights old.weights h.weight t.sum new.weights (weight_long b.variables b.items h.weight h.is_weight ∙ v) h.weights h.fits;
  complete = h.complete;
}

-- ---- the list under way

-- some bases are summed up, no more than the limit, and the others are left
pub record IsSummingUp (limit pairs : ℕ) (fs : List Terms) (row : Row) (s : Summary) : Type 0 where
  pub summed : List MarkedPolynomials
  pub rest : List MarkedPolynomials
  pub are_all : AreAllBases 4 fs (summed ++ rest)
  pub left : AreLeftIn row rest
  pub basis : IsNodeIn (ideal_by 4 fs) row.start
  pub budget : row.pairs ≡ pairs
  pub region : row.region ≡ all_positive 4
  pub few : length summed ≤ limit
  pub told : AreSummed summed s

module _ (limit pairs : ℕ) (fs : List Terms) where
  -- before the first basis
  pub starts : (alloc : Global) (workers : ℕ) (root : MarkedPolynomials) (s : Summary) → StartsAt 4 fs root → IsOfNoBasis s →
      IsSummingUp limit pairs fs (first_row alloc root (all_positive 4) workers pairs) s
  starts alloc workers root s begun h = record {
    summed = [];
    rest = finite.nodes;
    are_all = all_bases_from 4 fs root finite.nodes begun.inside begun.first.variables begun.first.reduced begun.first.arranged finite.leaves;
    left = start_leaves alloc root (all_positive 4) workers pairs mine finite.nodes finite.leaves;
    basis = node;
    budget = refl;
    region = refl;
    few = omega arith;
    told = none_told s h;
  }
    where
      node : IsNodeIn (ideal_by 4 fs) root
      node = first_node 4 fs root begun.inside begun.first.variables begun.first.reduced begun.first.arranged

      mine : IsNode (all_positive 4) root
      mine = first_own 4 fs root node

      finite : IsFinite IsBefore (IsParent (all_positive 4)) root (count (all_positive 4) root)
      finite = upward_finite (all_positive 4) root mine

  module _ (row : Row) (s : Summary) (way : IsSummingUp limit pairs fs row s) where
    -- the ideal of the row is that of fs
    same_fan : SameFan (ideal_in row) (ideal_by 4 fs)
    same_fan = subst (λ (k : Region). SameFan (fan_of k row.start) (ideal_by 4 fs)) (sym way.region)
        (back_fan (ideal_by 4 fs) (fan_of (all_positive 4) row.start) (own_fan (ideal_by 4 fs) row.start way.basis))

    -- the next basis is refused
    pub refused_in_tree : (e : TreeError) → ((nodes : List MarkedPolynomials) → AreLeftIn row nodes → IsRefusedEarly (ideal_in row) row.pairs nodes e) →
        IsSummaryCause limit pairs fs (of_tree e)
    refused_in_tree e h = IsSummaryCause.in_tree e (record {
      written = way.summed;
      rest = way.rest;
      are_all = way.are_all;
      few = way.few;
      early = subst (λ p. IsRefusedEarly (ideal_by 4 fs) p way.rest e) way.budget (early_moved (ideal_in row) (ideal_by 4 fs) row.pairs way.rest e same_fan
          (h way.rest way.left));
    }) refl

    -- nothing is left: all bases are summed up
    pub ends : (new : Row) → IsRowEnd row new → IsSummary limit fs s
    ends new end =
        let whole : take limit way.summed ≡ way.summed = take_all limit way.summed way.few in
        record {
          list = way.summed;
          are_all = subst (AreAllBases 4 fs) (ap (λ l. way.summed ++ l) (end.none way.rest way.left) ∙ append-nil way.summed) way.are_all;
          weights = way.told.weights;
          are_weights = subst (λ l. ArePrintedWeights l way.told.weights) (sym whole) way.told.are_weights;
          bases = omega (arith, way.told.bases, way.few);
          degree = way.told.degree ∙ ap (λ l. greatest (map degree_of_set l)) (sym whole);
          sum = way.told.sum.value;
          complete = way.told.complete ∙ sym (le_test (length way.summed) limit way.few);
        }

    module _ (new : Row) (b : MarkedPolynomials) (step : IsNextRow row new b) where
      next : (rest : List MarkedPolynomials) × (way.rest ≡ b ∷ rest) × AreLeftIn new rest
      next = step.first way.rest way.left

      all_next : AreAllBases 4 fs (way.summed ++ b ∷ next.0)
      all_next = subst (λ l. AreAllBases 4 fs (way.summed ++ l)) next.1 way.are_all

      all_with : AreAllBases 4 fs ((way.summed ++ b ∷ []) ++ next.0)
      all_with = subst (AreAllBases 4 fs) (sym (append_assoc way.summed (b ∷ []) next.0)) all_next

      -- a basis has four variables
      pub step_variables : b.variables ≡ 4
      step_variables = (node_moved (ideal_in row) (ideal_by 4 fs) b same_fan step.basis).variables

      -- there is one basis behind the limit
      pub past_limit : (told : Summary) → s.bases ≡ limit → told.bases ≡ s.bases → told.degree ≡ s.degree → told.weights ≡ s.weights → told.complete ≡ false →
          IsSummary limit fs told
      past_limit told full e d w c =
          let just : length way.summed ≡ limit = sym way.told.bases ∙ full in
          let front : take limit (way.summed ++ b ∷ next.0) ≡ way.summed =
          take-append-le limit way.summed (b ∷ next.0) (omega (arith, just)) ∙ take_all limit way.summed way.few in
          record {
            list = way.summed ++ b ∷ next.0;
            are_all = all_next;
            weights = way.told.weights;
            are_weights = subst (λ l. ArePrintedWeights l way.told.weights) (sym front) way.told.are_weights;
            bases = omega (arith, e, full, just, length-append way.summed (b ∷ next.0));
            degree = d ∙ way.told.degree ∙ ap (λ l. greatest (map degree_of_set l)) (sym front);
            sum = w ∙ way.told.sum.value;
            complete = c ∙ sym (le_false (length (way.summed ++ b ∷ next.0)) limit (omega (arith, just, length-append way.summed (b ∷ next.0))));
          }

      -- there is room for one more
      short : s.bases ≢ limit → length way.summed < limit
      short room = elim (cases_lt (length way.summed) limit) [ inl k ↦ k | inr k ↦ absurd (room (omega (arith, way.told.bases, way.few, k))) ]

      pub below_limit : s.bases ≢ limit → s.bases < limit
      below_limit room = omega (arith, way.told.bases, short room)

      -- one more is summed up
      pub goes_on : (then : Summary) → s.bases ≢ limit → IsWithBasis s b then → IsSummingUp limit pairs fs new then
      goes_on then room h = record {
        summed = way.summed ++ b ∷ [];
        rest = next.0;
        are_all = all_with;
        left = next.2;
        basis = subst (IsNodeIn (ideal_by 4 fs)) (sym step.same.start) way.basis;
        budget = step.same.pairs ∙ way.budget;
        region = step.same.region ∙ way.region;
        few = omega (arith, short room, length-append way.summed (b ∷ []));
        told = one_told way.summed b s then step_variables way.told h;
      }

      -- its weight isn't told, or the sum isn't
      pub refused_at_basis : (r : Refusal) → s.bases ≢ limit → IsUnsummed s b r → IsSummaryCause limit pairs fs r ⊎ (r ≡ refusals.Memory)
      refused_at_basis r room (IsUnsummed.at_weight e h q) =
          inl (IsSummaryCause.at_weight e (record { before = way.summed; basis = b; rest = next.0; are_all = all_next; few = short room; cause = h }) q)
      refused_at_basis r room (IsUnsummed.at_sum w h (IsWideSum.no_memory q)) = inr q
      refused_at_basis r room (IsUnsummed.at_sum w h (IsWideSum.wide e f q)) = inl (IsSummaryCause.at_sum e (record {
        summed = way.summed ++ b ∷ [];
        rest = next.0;
        are_all = all_with;
        few = omega (arith, short room, length-append way.summed (b ∷ []));
        weights = way.told.weights ++ w ∷ [];
        are_weights = AllZip-append (λ b w. IsPrintedWeight b.variables b.items w) way.summed (b ∷ []) way.told.weights (w ∷ []) way.told.are_weights (h, tt);
        wide = sum_leaves way.told.weights s.weights w way.told.sum e f;
      }) q)

-- ---- lines without a ring

pub unnamed_unsummed : (s : Summary) (b : MarkedPolynomials) (r : Refusal) → IsUnsummed s b r → IsUnnamed (without_names r)
unnamed_unsummed s b r (IsUnsummed.at_weight e h q) = subst (λ z. IsUnnamed (without_names z)) (sym q) (unnamed_weight e)
unnamed_unsummed s b r (IsUnsummed.at_sum w h (IsWideSum.no_memory q)) =
    subst (λ z. IsUnnamed (without_names z)) (sym q) (record { ring = refl; named = λ lent is. tt })
unnamed_unsummed s b r (IsUnsummed.at_sum w h (IsWideSum.wide e f q)) =
    subst (λ z. IsUnnamed (without_names z)) (sym q) (record { ring = refl; named = λ lent is. tt })

-- ---- the command

-- four lines of a summary
pub summary_answers : (number limit pairs : ℕ) (s : Summary) (text : List ℕ) → IsSummary limit (generated_set number) s →
    text ≡ summary_text s.bases s.degree s.weights s.complete → IsAnswered (summary_command number limit pairs) [] text
summary_answers number limit pairs s text h e = record {
  value = tt;
  read = tt;
  answer = record {
    formed = tt;
    is_answer = record {
      list = h.list;
      are_all = h.are_all;
      weights = h.weights;
      are_weights = h.are_weights;
      is_text = e ∙ (λ i. summary_text (h.bases i) (h.degree i) (h.sum i) (h.complete i));
    };
  };
}

pub summary_refuses : (number limit pairs : ℕ) (r : Refusal) → IsSummaryCause limit pairs (generated_set number) r ⊎ (r ≡ refusals.Memory) →
    IsRefusedOn (summary_command number limit pairs) [] r
summary_refuses number limit pairs r (inl h) = IsRefusedOn.behind_text tt tt (IsUnanswered.in_work tt h)
summary_refuses number limit pairs r (inr m) = IsRefusedOn.no_memory m

pub root_refuses : (number limit pairs : ℕ) (r : Refusal) → IsRootRefusal 4 (generated_set number) pairs r →
    IsRefusedOn (summary_command number limit pairs) [] r
root_refuses number limit pairs r h = summary_refuses number limit pairs r (inl (IsSummaryCause.at_root h.0 h.1 h.2))

-- ---- it is lawful

summary_work : (limit pairs : ℕ) (fs : List Terms) (r : Refusal) → IsSummaryCause limit pairs fs r → IsOfWork r
summary_work limit pairs fs r (IsSummaryCause.at_root e h q) = subst IsOfWork (sym q) (basis_work e)
summary_work limit pairs fs r (IsSummaryCause.in_tree e h q) = subst IsOfWork (sym q) (tree_work e)
summary_work limit pairs fs r (IsSummaryCause.at_weight e h q) = subst IsOfWork (sym q) (weight_work e)
summary_work limit pairs fs r (IsSummaryCause.at_sum e h q) = subst IsOfWork (sym q) tt

summary_untested : (limit pairs : ℕ) (fs : List Terms) (r : Refusal) → IsOfTest r → IsSummaryCause limit pairs fs r → ⊥
summary_untested limit pairs fs r t (IsSummaryCause.at_root e h q) = basis_untested e (subst IsOfTest q t)
summary_untested limit pairs fs r t (IsSummaryCause.in_tree e h q) = tree_untested e (subst IsOfTest q t)
summary_untested limit pairs fs r t (IsSummaryCause.at_weight e h q) = weight_untested e (subst IsOfTest q t)
summary_untested limit pairs fs r t (IsSummaryCause.at_sum e h q) = subst IsOfTest q t

summary_not_listed : (limit pairs : ℕ) (fs : List Terms) (most : ℕ) → IsSummaryCause limit pairs fs (refusals.ListLimit most) → ⊥
summary_not_listed limit pairs fs most (IsSummaryCause.at_root e h q) = basis_not_listed e most q
summary_not_listed limit pairs fs most (IsSummaryCause.in_tree e h q) = tree_not_listed e most q
summary_not_listed limit pairs fs most (IsSummaryCause.at_weight e h q) = weight_not_listed e most q
summary_not_listed limit pairs fs most (IsSummaryCause.at_sum e h q) = cc

generated_exact : (number limit pairs : ℕ) → IsExactCommand (summary_command number limit pairs)
generated_exact number limit pairs = record {
  reading = none_once;
  checks = λ texts v h. tt;
  work = λ v r h. summary_work limit pairs (generated_set number) r h;
  within = λ v r w h. w r h;
}

summary_lawful : (number limit pairs : ℕ) → IsLawful (summary_command number limit pairs)
summary_lawful number limit pairs =
    let c = summary_command number limit pairs in
    sound_lawful c (generated_exact number limit pairs) (untested c (λ v r t h. summary_untested limit pairs (generated_set number) r t h)) tt (λ t. t)
    (λ a m w. summary_not_listed limit pairs (generated_set number) m w)

pub generated_lawful : (o : GeneratedOptions) → IsLawful (generated_command o)
generated_lawful o = summary_lawful o.number o.limit o.pairs

-- ---- it writes one text

weights_one : (bs : List MarkedPolynomials) (ws vs : List (List ℤ)) → ArePrintedWeights bs ws → ArePrintedWeights bs vs → ws ≡ vs
weights_one [] [] [] p q = refl
weights_one [] [] (v ∷ vs) p q = absurd q
weights_one [] (w ∷ ws) vs p q = absurd p
weights_one (b ∷ bs) [] vs p q = absurd p
weights_one (b ∷ bs) (w ∷ ws) [] p q = absurd q
weights_one (b ∷ bs) (w ∷ ws) (v ∷ vs) p q =
    ap₂ (λ (x : List ℤ) (xs : List (List ℤ)). x ∷ xs) (one_weight b.variables (all_positive b.variables) b.items w v p.0 q.0) (weights_one bs ws vs p.1 q.1)

summaries_one : (limit : ℕ) (fs : List Terms) (text same : List ℕ) → AreInVariables 4 fs → IsSummaryText limit fs text → IsSummaryText limit fs same →
    text ≡ same
summaries_one limit fs text same v h k =
    let lists : h.list ≡ k.list = one_list 4 fs h.list k.list v h.are_all k.are_all in
    let weights : h.weights ≡ k.weights =
    weights_one (take limit k.list) h.weights k.weights (subst (λ l. ArePrintedWeights (take limit l) h.weights) lists h.are_weights) k.are_weights in
    h.is_text
    ∙ ap₂ (λ (l : List MarkedPolynomials) (ws : List (List ℤ)). summary_text (min limit (length l)) (greatest (map degree_of_set (take limit l)))
    (added (zeros 4) ws) (nat_le (length l) limit)) lists weights
    ∙ sym k.is_text

pub generated_ring : (k : ℕ) → HaveRingVariables 4 (generated_set k)
generated_ring k = record { each = λ f c. generators_are_binomials.variables k f c }

-- the list of the ideal that a number stands for begins at the first basis, and so does that of the ideal that this basis generates
pub generated_begins : (k : ℕ) (root : MarkedPolynomials) → IsFirstBasis 4 (generated_set k) root → StartsAt 4 (generated_set k) root
generated_begins k root h = record { inside = ring_variables 4 (generated_set k) (generated_ring k); first = h }

pub generated_start : (k : ℕ) (root : MarkedPolynomials) → IsFirstBasis 4 (generated_set k) root → StartsAt 4 (polys root.items) root
generated_start k root h = own_start 4 (generated_set k) root (generated_begins k root h)

pub one_summary : SummariesAreOne
one_summary number limit pairs others text same h k =
    summaries_one limit (generated_set number) text same (ring_variables 4 (generated_set number) (generated_ring number)) h.answer.is_answer k.answer.is_answer

-- ---- lines

-- four pieces, one behind another
pub four_pieces : (a b c d t u v w : List ℕ) → t ≡ a → u ≡ t ++ b → v ≡ u ++ c → w ≡ v ++ d → w ≡ concat (a ∷ b ∷ c ∷ d ∷ [])
four_pieces a b c d t u v w p q r i =
    let two : u ≡ a ++ b = q ∙ ap (λ n. n ++ b) p in
    let three : v ≡ (a ++ b) ++ c = r ∙ ap (λ n. n ++ c) two in
    let four : w ≡ ((a ++ b) ++ c) ++ d = i ∙ ap (λ n. n ++ d) three in
    four ∙ simp (append_assoc, append-nil)
