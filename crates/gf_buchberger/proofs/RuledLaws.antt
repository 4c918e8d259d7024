-- Runs by the rule of the program: what refuses one is an operation of it, and where its operations stay within limits only memory may be wanting.
-- Such a run is a run of Buchberger's algorithm.
-- To cite: ruled_generators_stop, ruled_stop, ruled_tails_stop, if_within_rule, not_of_numbers; run_of_ruled, ruled_within_limits. The rest are steps.
use Rattle.std.specs.Prelude.{◌≡◌, ℕ, zero, suc, ◌<◌, ◌≤◌, Bool, true, false, List, [], ◌∷◌, length, sum_by, slice_index_or, Result, Ok}
use Rattle.std.specs.Prelude.{Err, IfErr}
use Rattle.std.proofs.Common.{arith, refl, sym, ap, subst, inl, inr}
use Rattle.std.proofs.lemmas.List.Sums.{sum_by-cons}
use Rattle.gf_frac.specs.Fraction.{Fraction}
use Rattle.gf_frac.specs.declared.refusal.Op.{Op}
use Rattle.gf_exponents_theory.specs.SixOrders.{MonomialOrder, below_of}
use Rattle.gf_int_theory.proofs.ListLaws.{Contains-here}
use Rattle.gf_poly.specs.declared.error.PolyError.{PolyError}
use Rattle.gf_poly.specs.declared.error.PolyError.TheVariants as errors
use Rattle.gf_poly.specs.Polynomial.{Terms}
use Rattle.gf_poly.specs.Marking.{MarkedPolynomials}
use Rattle.gf_ideal_theory.specs.NormalForms.{IsNormalForm}
use Rattle.gf_ideal_theory.specs.WorkLists.{IsOrigin, IsWorkList, IsRunOperation, IsRunExponents}
use Rattle.gf_ideal_theory.proofs.DividingLaws.{member_contained}
use Rattle.gf_ideal_theory.proofs.NormalFormLaws.{normal_form-reached}
use Rattle.gf_ideal_theory.proofs.WorkLaws.{work-marked}
use Rattle.gf_division.specs.Autoreduction.{IsTailRefusal, IsAutoreductionRefusal}
use Rattle.gf_division.specs.Steps.{IsReductionRefusal}
use Rattle.gf_buchberger.specs.declared.bases.BasisError.{BasisError}
use Rattle.gf_buchberger.specs.declared.bases.BasisError.TheVariants as basis_errors
use Rattle.gf_buchberger.specs.declared.queue.Strategy.{Strategy}
use Rattle.gf_buchberger.specs.declared.queue.Waiting.{Waiting}
use Rattle.gf_buchberger.specs.declared.runs.Run.{Run}
use Rattle.gf_buchberger.specs.declared.runs.Stop.{Stop}
use Rattle.gf_buchberger.specs.declared.runs.Stop.TheVariants as stops
use Rattle.gf_buchberger.specs.Bases.{AreRunsWithinLimits, IsWantOfMemory, is_of_numbers, IsRuledRefusal, IsRuledRunRefusal, IsSpentAnswer, IsStopAnswer}
use Rattle.gf_buchberger.specs.Bases.{of_poly_error}
use Rattle.gf_buchberger.specs.Generators.{IsRefusedEntry}
use Rattle.gf_buchberger.specs.Tasks.{HaveRingVariables}
use Rattle.gf_buchberger.specs.Pairs.{PairMarks, IsPairTable, pairs_below, index, one_if, is_settled, settled_count}
use Rattle.gf_buchberger.specs.Progress.{IsGeneratorRefusal, IsRefusedRun, IsSpent, IsStop}
use Rattle.gf_buchberger.specs.Ruled.{IsRuled, IsNextPair, IsRuledOrigin, IsRuledOperation, IsRuledExponents, IsRuledSpent, AreRuledRunsWithinLimits}
use Rattle.gf_buchberger.specs.Runs.{State, state_of, with_pair, IsRun, IsAppendRefusal, IsRefusedPair}
use Rattle.gf_buchberger.proofs.GeneratorsOfRuns.{run-none, entered_one}
use Rattle.gf_buchberger.proofs.InterreductionOfRuns.{tails_refused}
use Rattle.gf_buchberger.proofs.PairsLaws.{index-inside}
use Rattle.gf_buchberger.proofs.RunSteps.{state_eq, run-permuted}
use Rattle.gf_buchberger.proofs.SettleLaws.{run-passed, run-more}

-- ---- refusals

-- a step of the reduction of what comes next
ruled_reduction : (strategy : Strategy) (order : MonomialOrder) (fs : List Terms) (s : State) (f : Terms) (e : PolyError) →
    IsRuledOrigin strategy order fs s f → IsReductionRefusal s.members f e → IsRuledRunRefusal strategy order fs e
ruled_reduction strategy order fs s f (errors.Overflow o) q h = (IsRuledOperation.step s f q h.0, h.1)
ruled_reduction strategy order fs s f (errors.Exponent o) q h = (IsRuledExponents.step s f q h.0, h.1)
ruled_reduction strategy order fs s f errors.Memory q h = tt

-- making its normal form monic
ruled_monic : (strategy : Strategy) (order : MonomialOrder) (fs : List Terms) (s : State) (f r : Terms) (e : PolyError) →
    IsRuledOrigin strategy order fs s f → IsNormalForm s.members f r → IsAppendRefusal order r e → IsRuledRunRefusal strategy order fs e
ruled_monic strategy order fs s f r (errors.Overflow o) q n ((at, greatest, operation), leaves) =
    (IsRuledOperation.monic s f r at q n greatest operation, leaves)
ruled_monic strategy order fs s f r (errors.Exponent o) q n h = absurd h.0
ruled_monic strategy order fs s f r errors.Memory q n h = tt

-- a generator
ruled_entry : (strategy : Strategy) (order : MonomialOrder) (fs : List Terms) (i : ℕ) (s : State) (f : Terms) (e : PolyError) →
    IsRuled strategy order fs i s → i < length fs → slice_index_or fs i f ≡ f → IsRefusedEntry order s f e → IsRuledRunRefusal strategy order fs e
ruled_entry strategy order fs i s f e r l q (IsRefusedEntry.reduction h) = ruled_reduction strategy order fs s f e (IsRuledOrigin.generator i r l q) h
ruled_entry strategy order fs i s f e r l q (IsRefusedEntry.monic g u n h) = ruled_monic strategy order fs s f g e (IsRuledOrigin.generator i r l q) n h

ruled_generators : (strategy : Strategy) (order : MonomialOrder) (fs : List Terms) (e : PolyError) → IsGeneratorRefusal strategy order fs e →
    IsRuledRunRefusal strategy order fs e
ruled_generators strategy order fs (errors.Overflow o) h =
    ruled_entry strategy order fs h.i h.at h.generator (errors.Overflow o) h.entered.ruled h.inside h.is h.refused
ruled_generators strategy order fs (errors.Exponent o) h =
    ruled_entry strategy order fs h.i h.at h.generator (errors.Exponent o) h.entered.ruled h.inside h.is h.refused
ruled_generators strategy order fs errors.Memory h = tt

-- a pair
ruled_pair : (strategy : Strategy) (order : MonomialOrder) (fs : List Terms) (w : Waiting) (s : State) (e : PolyError) → IsNextPair strategy order fs w s →
    IsRefusedPair order s w.first w.second e → IsRuledRunRefusal strategy order fs e
ruled_pair strategy order fs w s (errors.Overflow o) n (IsRefusedPair.s_polynomial b c x y h) = (IsRuledOperation.s_polynomial w s b c n x y h.0, h.1)
ruled_pair strategy order fs w s (errors.Exponent o) n (IsRefusedPair.s_polynomial b c x y h) = (IsRuledExponents.s_polynomial w s b c n x y h.0, h.1)
ruled_pair strategy order fs w s errors.Memory n (IsRefusedPair.s_polynomial b c x y h) = tt
ruled_pair strategy order fs w s e n (IsRefusedPair.reduction b c f x y q h) = ruled_reduction strategy order fs s f e (IsRuledOrigin.pair w b c n x y q) h
ruled_pair strategy order fs w s e n (IsRefusedPair.monic b c f r x y q u v h) = ruled_monic strategy order fs s f r e (IsRuledOrigin.pair w b c n x y q) v h

ruled_run : (strategy : Strategy) (order : MonomialOrder) (fs : List Terms) (budget : ℕ) (start : State) (e : PolyError) →
    IsRuled strategy order fs (length fs) start → IsRefusedRun order budget start e → IsRuledRunRefusal strategy order fs e
ruled_run strategy order fs budget start e r h =
    ruled_pair strategy order fs h.pair h.at e (record { ruled = h.settling.ruled strategy fs r; first = h.first }) h.refused

-- a tail, once no pair waits
ruled_tails : (strategy : Strategy) (order : MonomialOrder) (fs : List Terms) (s : State) (e : PolyError) → IsRuled strategy order fs (length fs) s →
    s.queue ≡ [] → IsTailRefusal s.members e → IsRuledRunRefusal strategy order fs e
ruled_tails strategy order fs s (errors.Overflow o) r q h = (IsRuledOperation.tail s r q h.0, h.1)
ruled_tails strategy order fs s (errors.Exponent o) r q h = (IsRuledExponents.tail s r q h.0, h.1)
ruled_tails strategy order fs s errors.Memory r q h = tt

-- ---- as they are answered

ruled_refusal : (strategy : Strategy) (order : MonomialOrder) (fs : List Terms) (budget : ℕ) (e : PolyError) → IsRuledRunRefusal strategy order fs e →
    IsRuledRefusal strategy order fs budget (of_poly_error e)
ruled_refusal strategy order fs budget (errors.Overflow o) h = h
ruled_refusal strategy order fs budget (errors.Exponent o) h = h
ruled_refusal strategy order fs budget errors.Memory h = tt

pub ruled_generators_stop : (strategy : Strategy) (order : MonomialOrder) (fs : List Terms) (budget : ℕ) (e : PolyError) (b : BasisError) →
    IsGeneratorRefusal strategy order fs e → b ≡ of_poly_error e → IsRuledRefusal strategy order fs budget b
ruled_generators_stop strategy order fs budget e b h q =
    subst (IsRuledRefusal strategy order fs budget) (sym q) (ruled_refusal strategy order fs budget e (ruled_generators strategy order fs e h))

ruled_spent : (strategy : Strategy) (order : MonomialOrder) (n : ℕ) (fs : List Terms) (budget : ℕ) (start : State) (run : Run) (b : BasisError) →
    settled_count start.table ≡ 0 → IsRuled strategy order fs (length fs) start → IsSpent order budget start (state_of run) → IsSpentAnswer n run b →
    IsRuledRefusal strategy order fs budget b
ruled_spent strategy order n fs budget start run (basis_errors.Overflow o) z r h a = absurd a
ruled_spent strategy order n fs budget start run (basis_errors.Exponent o) z r h a = absurd a
ruled_spent strategy order n fs budget start run basis_errors.Memory z r h a = tt
ruled_spent strategy order n fs budget start run (basis_errors.PairBudget s unsettled) z r h a = record {
  pair = h.pair;
  at = state_of run;
  next = record { ruled = h.settling.ruled strategy fs r; first = h.first };
  unsettled = h.unsettled;
  count = omega (arith, h.settling.count, z);
}

pub ruled_stop : (strategy : Strategy) (order : MonomialOrder) (n : ℕ) (fs : List Terms) (budget : ℕ) (start : State) (stop : Stop) (b : BasisError) →
    settled_count start.table ≡ 0 → IsRuled strategy order fs (length fs) start → IsStop order budget start stop → IsStopAnswer n stop b →
    IsRuledRefusal strategy order fs budget b
ruled_stop strategy order n fs budget start (stops.Refused (errors.Overflow o)) b z r h q =
    subst (IsRuledRefusal strategy order fs budget) (sym q) (ruled_run strategy order fs budget start (errors.Overflow o) r h)
ruled_stop strategy order n fs budget start (stops.Refused (errors.Exponent o)) b z r h q =
    subst (IsRuledRefusal strategy order fs budget) (sym q) (ruled_run strategy order fs budget start (errors.Exponent o) r h)
ruled_stop strategy order n fs budget start (stops.Refused errors.Memory) b z r h q = subst (IsRuledRefusal strategy order fs budget) (sym q) tt
ruled_stop strategy order n fs budget start (stops.Spent run) b z r h q = ruled_spent strategy order n fs budget start run b z r h q

pub ruled_tails_stop : (strategy : Strategy) (order : MonomialOrder) (n : ℕ) (fs : List Terms) (budget : ℕ) (s : State) (t : MarkedPolynomials)
    (e : PolyError) (b : BasisError) →
    IsRuled strategy order fs (length fs) s → s.queue ≡ [] → IsWorkList fs (below_of order) s.members → t ≡ record { variables = n; items = s.members } →
    IsAutoreductionRefusal t.items e → b ≡ of_poly_error e → IsRuledRefusal strategy order fs budget b
ruled_tails_stop strategy order n fs budget s t e b r q w p h k =
    subst (IsRuledRefusal strategy order fs budget) (sym k)
    (ruled_refusal strategy order fs budget e
    (ruled_tails strategy order fs s e r q
    (tails_refused order s.members e (work-marked fs (below_of order) s.members w) (subst (λ (z : MarkedPolynomials). IsAutoreductionRefusal z.items e) p h))))

-- ---- within limits

within_rule : (strategy : Strategy) (order : MonomialOrder) (fs : List Terms) (budget : ℕ) (e : BasisError) →
    AreRuledRunsWithinLimits strategy order fs budget →
    IsRuledRefusal strategy order fs budget e → IsWantOfMemory e
within_rule strategy order fs budget (basis_errors.Overflow o) w h = absurd (h.1 (w.operations o.op o.left o.right h.0))
within_rule strategy order fs budget (basis_errors.Exponent o) w h = absurd (omega (arith, w.exponents o.left o.right h.0, h.1))
within_rule strategy order fs budget (basis_errors.PairBudget s unsettled) w h = absurd (w.pairs h)
within_rule strategy order fs budget basis_errors.Memory w h = refl

pub if_within_rule : {A : Type 0} (strategy : Strategy) (order : MonomialOrder) (fs : List Terms) (budget : ℕ) (r : Result A BasisError) →
    AreRuledRunsWithinLimits strategy order fs budget → IfErr r (IsRuledRefusal strategy order fs budget) → IfErr r IsWantOfMemory
if_within_rule strategy order fs budget (Ok a) w h = tt
if_within_rule strategy order fs budget (Err e) w h = within_rule strategy order fs budget e w h

-- where they stay within limits no refusal is of numbers
pub not_of_numbers : (strategy : Strategy) (order : MonomialOrder) (fs : List Terms) (budget : ℕ) (e : BasisError) →
    AreRuledRunsWithinLimits strategy order fs budget →
    IsRuledRefusal strategy order fs budget e → is_of_numbers e ≡ true → ⊥
not_of_numbers strategy order fs budget e w h t = of_memory (ap is_of_numbers (within_rule strategy order fs budget e w h))
  where
    of_memory : is_of_numbers e ≡ false → ⊥
    of_memory q = cc

-- ---- such a run is a run of Buchberger's algorithm

pub run_of_ruled : (strategy : Strategy) (order : MonomialOrder) (n : ℕ) (fs : List Terms) (i : ℕ) (s : State) → HaveRingVariables n fs →
    IsRuled strategy order fs i s → IsRun order n fs s
run_of_ruled strategy order n fs i s v (IsRuled.start t b) =
    subst (IsRun order n fs)
    (sym (state_eq t (record { members = []; table = record { members = 0; marks = [] }; queue = []; strategy = t.strategy }) b.members b.table b.queue refl))
    (run-none order n fs t.strategy)
run_of_ruled strategy order n fs i s v (IsRuled.entered k f old new r l q h) =
    (entered_one order n fs f old new v (k, l, q) (run_of_ruled strategy order n fs k old v r) h).0
run_of_ruled strategy order n fs i s v (IsRuled.turned k old new r q) =
    run-permuted order n fs old new q.members q.table q.queue (run_of_ruled strategy order n fs k old v r)
run_of_ruled strategy order n fs i s v (IsRuled.passed w t r first q) =
    run-passed order n fs t w q (run_of_ruled strategy order n fs (length fs) (with_pair w t) v r)
run_of_ruled strategy order n fs i s v (IsRuled.settled w old new r first b) =
    run-more order n fs old new w b (run_of_ruled strategy order n fs (length fs) (with_pair w old) v r)

-- its operations are operations of one
module _ (strategy : Strategy) (order : MonomialOrder) (n : ℕ) (fs : List Terms) (v : HaveRingVariables n fs) where
  next_work : (w : Waiting) (s : State) → IsNextPair strategy order fs w s → IsWorkList fs (below_of order) s.members
  next_work w s h = (run_of_ruled strategy order n fs (length fs) (with_pair w s) v h.ruled).work

  origin_work : (s : State) (f : Terms) → IsRuledOrigin strategy order fs s f → IsWorkList fs (below_of order) s.members × IsOrigin fs s.members f
  origin_work s f (IsRuledOrigin.generator i r l q) = ((run_of_ruled strategy order n fs i s v r).work, inl (i, l, q))
  origin_work s f (IsRuledOrigin.pair w b c h x y q) =
      (next_work w s h, inr (b, c, member_contained s.members w.first b x, member_contained s.members w.second c y, q))

  run_operation : (op : Op) (left right : Fraction) → IsRuledOperation strategy order fs op left right → IsRunOperation fs (below_of order) op left right
  run_operation op left right (IsRuledOperation.step s f q o) = let w = origin_work s f q in IsRunOperation.step s.members f w.0 w.1 o
  run_operation op left right (IsRuledOperation.s_polynomial w s b c h x y o) =
      IsRunOperation.s_polynomial s.members b c (next_work w s h) (member_contained s.members w.first b x) (member_contained s.members w.second c y) o
  run_operation op left right (IsRuledOperation.monic s f r at q h g o) =
      let w = origin_work s f q in
      IsRunOperation.monic s.members f r at w.0 w.1 (normal_form-reached s.members f r h.reached) g (λ d. h.irreducible at g.there d) o
  run_operation op left right (IsRuledOperation.tail s r q k) =
      IsRunOperation.tail s.members k.from k.at (run_of_ruled strategy order n fs (length fs) s v r).work k.tail k.unmarked k.operation

  run_exponents : (left right : ℕ) → IsRuledExponents strategy order fs left right → IsRunExponents fs (below_of order) left right
  run_exponents left right (IsRuledExponents.step s f q o) = let w = origin_work s f q in IsRunExponents.step s.members f w.0 w.1 o
  run_exponents left right (IsRuledExponents.s_polynomial w s b c h x y o) =
      IsRunExponents.s_polynomial s.members b c (next_work w s h) (member_contained s.members w.first b x) (member_contained s.members w.second c y) o
  run_exponents left right (IsRuledExponents.tail s r q k) =
      IsRunExponents.tail s.members k.from k.at (run_of_ruled strategy order n fs (length fs) s v r).work k.tail k.unmarked k.sum

-- of marks of which one isn't set fewer are set than there are
fewer_set : (ms : List Bool) → sum_by one_if ms ≤ length ms
fewer_set [] = omega arith
fewer_set (true ∷ ms) = let e = sum_by-cons one_if true ms in omega (arith, e, fewer_set ms)
fewer_set (false ∷ ms) = let e = sum_by-cons one_if false ms in omega (arith, e, fewer_set ms)

one_unset : (ms : List Bool) (k : ℕ) → k < length ms → slice_index_or ms k false ≡ false → sum_by one_if ms < length ms
one_unset [] k l e = absurd (omega (arith, l))
one_unset (true ∷ ms) zero l e = cc
one_unset (false ∷ ms) zero l e = let s = sum_by-cons one_if false ms in omega (arith, s, fewer_set ms)
one_unset (true ∷ ms) (suc k) l e = let s = sum_by-cons one_if true ms in omega (arith, s, one_unset ms k (omega (arith, l)) e)
one_unset (false ∷ ms) (suc k) l e = let s = sum_by-cons one_if false ms in omega (arith, s, one_unset ms k (omega (arith, l)) e)

settled_fewer : (t : PairMarks) (i j : ℕ) → IsPairTable t → i < j → j < t.members → is_settled t i j ≡ false → settled_count t < pairs_below t.members
settled_fewer t i j v l m e = omega (arith, one_unset t.marks (index i j) (omega (arith, v.each, index-inside i j t.members l m)) e, v.each)

-- where no run leaves the limits, none by the rule does
pub ruled_within_limits : (strategy : Strategy) (order : MonomialOrder) (n : ℕ) (fs : List Terms) (budget : ℕ) → HaveRingVariables n fs →
    AreRunsWithinLimits order fs budget → AreRuledRunsWithinLimits strategy order fs budget
ruled_within_limits strategy order n fs budget v h = record {
  operations = λ op left right o. h.operations op left right (run_operation strategy order n fs v op left right o);
  exponents = λ left right o. h.exponents left right (run_exponents strategy order n fs v left right o);
  pairs = λ s. none s;
}
  where
    none : IsRuledSpent strategy order fs budget → ⊥
    none s =
        let run : IsRun order n fs (with_pair s.pair s.at) = run_of_ruled strategy order n fs (length fs) (with_pair s.pair s.at) v s.next.ruled in
        let valid = run.state.valid s.pair (Contains-here s.pair s.at.queue) in
        let fewer : settled_count s.at.table < pairs_below s.at.table.members =
        settled_fewer s.at.table s.pair.first s.pair.second run.state.table valid.0 (omega (arith, valid.1, run.state.size)) s.unsettled in
        absurd (omega (arith, h.pairs s.at.members run.work, fewer, s.count, ap pairs_below run.state.size))
