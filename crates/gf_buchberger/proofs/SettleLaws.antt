-- All pairs of a run: one more is settled, and fewer are left.
use Rattle.std.specs.Prelude.{◌≡◌, ◌≢◌, ◌⊎◌, ℕ, suc, ◌+◌, ◌*◌, ◌-◌, ◌<◌, ◌≤◌, true, false, List, [], ◌∷◌, length, Contains, IsPermutation}
use Rattle.std.proofs.Common.{arith, refl, sym, ap, ◌∙◌, subst, inl, inr}
use Rattle.std.proofs.lemmas.Bool.{cases_lt}
use Rattle.std.proofs.lemmas.List.Sorted.{length_permutation, Contains-permutation, IsPermutation-sym}
use Rattle.gf_exponents_theory.specs.SixOrders.{MonomialOrder, below_of}
use Rattle.gf_int_theory.proofs.ListLaws.{Contains-here}
use Rattle.gf_poly.specs.declared.error.PolyError.{PolyError}
use Rattle.gf_poly.specs.declared.error.PolyError.TheVariants as errors
use Rattle.gf_poly.specs.Polynomial.{Terms}
use Rattle.gf_poly.specs.Marking.{MarkedPolynomial}
use Rattle.gf_ideal_theory.specs.Settled.{IsAt, IsSettledPair}
use Rattle.gf_ideal_theory.proofs.ListLaws.{Contains-there, Contains-cases}
use Rattle.gf_buchberger.specs.Covered.{IsCovered}
use Rattle.gf_buchberger.specs.declared.queue.Strategy.{Strategy}
use Rattle.gf_buchberger.specs.declared.queue.Waiting.{Waiting}
use Rattle.gf_buchberger.specs.Keys.{IsFirst}
use Rattle.gf_buchberger.specs.Progress.{IsSettling, IsWorkedThrough, IsStop}
use Rattle.gf_buchberger.specs.Ruled.{IsRuled}
use Rattle.gf_buchberger.specs.declared.runs.Stop.TheVariants as stops
use Rattle.gf_buchberger.specs.Pairs.{PairMarks, IsPairTable, is_settled, settled_count, with_settled}
use Rattle.gf_buchberger.specs.Runs.{AreReducers, State, with_pair, IsWaiting, IsState, IsRun, IsAppended, CountsAsSettled, IsExcused, IsPairWorkedOff}
use Rattle.gf_buchberger.specs.Runs.{IsSettledBy, IsSettlingRefusal, IsSomeRun}
use Rattle.gf_buchberger.proofs.PairsLaws.{settled_count-settle, settled_count-member, settled-member_old, IsPairTable-member}
use Rattle.gf_buchberger.proofs.TaskLaws.{run_reducers}
use Rattle.gf_buchberger.proofs.RunSteps.{state_eq, excused_pair, reduced_pair, run-permuted, run-settled, length-last, contained_old}

-- ---- the run so far

-- a pair taken out of the queue
pub settling-popped : (order : MonomialOrder) (old : State) (members : List MarkedPolynomial) (table : PairMarks) (strategy : Strategy)
    (queue rest : List Waiting) (w : Waiting) (done : ℕ) → IsPermutation queue (w ∷ rest) →
    IsSettling order old (record { members = members; table = table; queue = queue; strategy = strategy }) done →
    IsSettling order old (with_pair w (record { members = members; table = table; queue = rest; strategy = strategy })) done
settling-popped order old members table strategy queue rest w done p s = record {
  run =
      λ n fs r. run-permuted order n fs (record { members = members; table = table; queue = queue; strategy = strategy })
      (record { members = members; table = table; queue = w ∷ rest; strategy = strategy }) refl refl p (s.run n fs r);
  ruled =
      λ k fs r. IsRuled.turned (length fs) (record { members = members; table = table; queue = queue; strategy = strategy })
      (record { members = members; table = table; queue = w ∷ rest; strategy = strategy }) (s.ruled k fs r)
      (record { members = refl; table = refl; queue = p; strategy = refl });
  kept = s.kept;
  members = s.members;
  count = s.count;
}

-- what the next step asks for
pub record IsNext (order : MonomialOrder) (s : State) (w : Waiting) : Type 0 where
  pub state : IsState s
  pub pair : w.first < w.second
  pub second : w.second < length s.members
  pub member : w.second < s.table.members
  pub reducers : AreReducers order s.members

pub is_next : (order : MonomialOrder) (old s : State) (w : Waiting) (done : ℕ) → IsSomeRun order old → IsSettling order old (with_pair w s) done →
    IsNext order s w
is_next order old s w done some h = record {
  state = record { table = run.state.table; size = run.state.size; valid = λ v c. run.state.valid v (Contains-there w v s.queue c) };
  pair = valid.0;
  second = valid.1;
  member = omega (arith, valid.1, run.state.size);
  reducers = run_reducers order some.n some.fs (with_pair w s) some.task run;
}
  where
    run : IsRun order some.n some.fs (with_pair w s)
    run = h.run some.n some.fs some.run

    valid : (w.first < w.second) × (w.second < length s.members)
    valid = run.state.valid w (Contains-here w s.queue)

-- a pair that is settled already, or covered, is passed over
pub run-passed : (order : MonomialOrder) (n : ℕ) (fs : List Terms) (s : State) (w : Waiting) →
    (is_settled s.table w.first w.second ≡ true) ⊎ IsCovered s.members w.first w.second → IsRun order n fs (with_pair w s) → IsRun order n fs s
run-passed order n fs s w e r = record {
  work = r.work;
  variables = r.variables;
  state = record { table = r.state.table; size = r.state.size; valid = λ v c. r.state.valid v (Contains-there w v s.queue c) };
  settled = r.settled;
  waiting = λ i j l m. stays i j (r.waiting i j l m);
}
  where
    moved : (v : Waiting) → w ≡ v → (is_settled s.table w.first w.second ≡ true) ⊎ IsCovered s.members w.first w.second →
        (is_settled s.table v.first v.second ≡ true) ⊎ IsWaiting s.queue v.first v.second ⊎ IsCovered s.members v.first v.second
    moved v q (inl k) = inl (subst (λ (z : Waiting). is_settled s.table z.first z.second ≡ true) q k)
    moved v q (inr k) = inr (inr (subst (λ (z : Waiting). IsCovered s.members z.first z.second) q k))

    index : (i j : ℕ) (v : Waiting) → v.first ≡ i → v.second ≡ j → (w ≡ v) ⊎ Contains s.queue v →
        (is_settled s.table i j ≡ true) ⊎ IsWaiting s.queue i j ⊎ IsCovered s.members i j
    index i j v f g (inl q) = subst (λ (z : ℕ). (is_settled s.table z j ≡ true) ⊎ IsWaiting s.queue z j ⊎ IsCovered s.members z j) f
        (subst (λ (z : ℕ). (is_settled s.table v.first z ≡ true) ⊎ IsWaiting s.queue v.first z ⊎ IsCovered s.members v.first z) g (moved v q e))
    index i j v f g (inr c) = inr (inl (record { pair = v; contained = c; first = f; second = g }))

    stays : (i j : ℕ) → (is_settled s.table i j ≡ true) ⊎ IsWaiting (w ∷ s.queue) i j ⊎ IsCovered s.members i j →
        (is_settled s.table i j ≡ true) ⊎ IsWaiting s.queue i j ⊎ IsCovered s.members i j
    stays i j (inl q) = inl q
    stays i j (inr (inl v)) = index i j v.pair v.first v.second (Contains-cases w v.pair s.queue v.contained)
    stays i j (inr (inr c)) = inr (inr c)

pub settling-skipped : (order : MonomialOrder) (old s : State) (w : Waiting) (done : ℕ) → IsFirst (w ∷ s.queue) w →
    (is_settled s.table w.first w.second ≡ true) ⊎ IsCovered s.members w.first w.second → IsSettling order old (with_pair w s) done →
    IsSettling order old s done
settling-skipped order old s w done first e h = record {
  run = λ n fs r. run-passed order n fs s w e (h.run n fs r);
  ruled = λ k fs r. IsRuled.passed w s (h.ruled k fs r) first e;
  kept = h.kept;
  members = h.members;
  count = h.count;
}

-- ---- one pair more

-- what working a pair off leaves as it is: the old members, the marks of old pairs, their count
record IsWorked (old mid : State) (w : Waiting) : Type 0 where
  kept : (b : MarkedPolynomial) → Contains old.members b → Contains mid.members b
  members : length mid.members ≤ length old.members + 1
  count : settled_count mid.table ≡ settled_count old.table
  unsettled : is_settled mid.table w.first w.second ≡ is_settled old.table w.first w.second
  size : old.table.members ≤ mid.table.members
  queue : length mid.queue ≤ length old.queue + length old.members

worked-same : (old : State) (w : Waiting) → IsWorked old old w
worked-same old w = record { kept = λ b c. c; members = omega arith; count = refl; unsettled = refl; size = omega arith; queue = omega arith }

worked-appended : (order : MonomialOrder) (r : Terms) (old mid : State) (w : Waiting) → IsNext order old w → IsAppended order r old mid → IsWorked old mid w
worked-appended order r old mid w n a = record {
  kept = λ b c. subst (λ (m : List MarkedPolynomial). Contains m b) (sym a.members) (contained_old old.members a.member b c);
  members = omega (arith, ap length a.members, length-last old.members a.member);
  count = ap settled_count a.table ∙ settled_count-member old.table;
  unsettled = ap (λ (t : PairMarks). is_settled t w.first w.second) a.table ∙ settled-member_old old.table w.first w.second n.state.table n.pair n.member;
  size = omega (arith, ap (λ (t : PairMarks). t.members) a.table);
  queue = omega (arith, a.pairs.count);
}

worked : (order : MonomialOrder) (old mid : State) (w : Waiting) → IsNext order old w → IsPairWorkedOff order old mid w.first w.second → IsWorked old mid w
worked order old mid w n (inl (x, e)) = subst (λ (s : State). IsWorked old s w) (sym e) (worked-same old w)
worked order old mid w n (inr h) = elim h.left [
  | inl z ↦ subst (λ (s : State). IsWorked old s w) (sym z.1) (worked-same old w)
  | inr z ↦ worked-appended order h.r old mid w n z.1
]

excused_beside : (w : Waiting) (s : State) (i j : ℕ) → IsExcused s i j → IsExcused (with_pair w s) i j
excused_beside w s i j (inl h) = inl h
excused_beside w s i j (inr (inl h)) = inr (inl h)
excused_beside w s i j (inr (inr (k, h))) =
    inr (inr (k, record { inside = h.inside; divides = h.divides; left = counts_beside w s i k h.left; right = counts_beside w s k j h.right }))
  where
    counts_beside : (w : Waiting) (s : State) (p q : ℕ) → CountsAsSettled s p q → CountsAsSettled (with_pair w s) p q
    counts_beside w s p q (inl h) = inl h
    counts_beside w s p q (inr (inl h)) = inr (inl h)
    counts_beside w s p q (inr (inr h)) = inr (inr h)

-- the pair is settled in the middle, and the run goes on there
worked-run : (order : MonomialOrder) (n : ℕ) (fs : List Terms) (old mid : State) (w : Waiting) → IsRun order n fs (with_pair w old) →
    IsPairWorkedOff order old mid w.first w.second → IsRun order n fs (with_pair w mid) × ((b c : MarkedPolynomial) → IsAt mid.members w.first b →
    IsAt mid.members w.second c → IsSettledPair n mid.members (below_of order) b c)
worked-run order n fs old mid w r (inl (x, e)) = subst (λ (s : State). IsRun order n fs (with_pair w s) × ((b c : MarkedPolynomial) → IsAt s.members w.first b →
    IsAt s.members w.second c → IsSettledPair n s.members (below_of order) b c)) (sym e) (
      r,
      λ b c p q. excused_pair order n fs (with_pair w old)
          w.first w.second b c r (excused_beside w old w.first w.second x) p q,
    )
worked-run order n fs old mid w r (inr h) = reduced_pair order n fs w old mid r h

middle_table : (order : MonomialOrder) (old mid : State) (i j : ℕ) → IsPairTable old.table → IsPairWorkedOff order old mid i j → IsPairTable mid.table
middle_table order old mid i j v (inl (x, e)) = subst (λ (s : State). IsPairTable s.table) (sym e) v
middle_table order old mid i j v (inr h) = elim h.left [
  | inl z ↦ subst (λ (s : State). IsPairTable s.table) (sym z.1) v
  | inr z ↦ subst IsPairTable (sym z.1.table) (IsPairTable-member old.table v)
]

-- the state behind it
settled-whole : (order : MonomialOrder) (old new : State) (w : Waiting) (b : IsSettledBy order old new w.first w.second) →
    new ≡ record { members = b.middle.members; table = with_settled b.middle.table w.first w.second; queue = b.middle.queue; strategy = b.middle.strategy }
settled-whole order old new w b =
    state_eq new
    (record { members = b.middle.members; table = with_settled b.middle.table w.first w.second; queue = b.middle.queue; strategy = b.middle.strategy })
    b.members b.table b.queue b.strategy

pub run-more : (order : MonomialOrder) (n : ℕ) (fs : List Terms) (old new : State) (w : Waiting) → IsSettledBy order old new w.first w.second →
    IsRun order n fs (with_pair w old) → IsRun order n fs new
run-more order n fs old new w b r =
    let m = worked-run order n fs old b.middle w r b.worked in
    subst (IsRun order n fs) (sym (settled-whole order old new w b)) (run-settled order n fs w b.middle m.0 m.1)

pub settling-more : (order : MonomialOrder) (start old new : State) (w : Waiting) (done : ℕ) → IsNext order old w → IsFirst (w ∷ old.queue) w →
    is_settled old.table w.first w.second ≡ false → IsSettling order start (with_pair w old) done → IsSettledBy order old new w.first w.second →
    IsSettling order start new (done + 1)
settling-more order start old new w done next first u h b = subst (λ (s : State). IsSettling order start s (done + 1)) (sym whole) (record {
  run = λ n fs r. subst (IsRun order n fs) whole (run-more order n fs old new w b (h.run n fs r));
  ruled = λ k fs r. subst (IsRuled k order fs (length fs)) whole (IsRuled.settled w old new (h.ruled k fs r) first b);
  kept = λ d c. k.kept d (h.kept d c);
  members = omega (arith, k.members, h.members);
  count = settled_count-settle b.middle.table w.first w.second table next.pair (omega (arith, k.size, next.member)) (k.unsettled ∙ u) ∙ omega (
    arith,
    k.count,
    h.count,
  );
})
  where
    k : IsWorked old b.middle w
    k = worked order old b.middle w next b.worked

    table : IsPairTable b.middle.table
    table = middle_table order old b.middle w.first w.second next.state.table b.worked

    whole : new ≡ record {
      members = b.middle.members;
      table = with_settled b.middle.table w.first w.second;
      queue = b.middle.queue;
      strategy = b.middle.strategy;
    }
    whole = settled-whole order old new w b

-- ---- fewer are left

-- how much there is to do: the pairs that may still be settled, and those that wait
abbrev pub left_over : ℕ → ℕ → State → ℕ → ℕ
left_over budget first s done = (budget - done) * (first + budget + 2) + length s.queue

less : (a b k m q r : ℕ) → a ≡ k + b → r + 1 ≤ q + m → m < k → b + r < a + q
less a b k m q r e l h = omega arith

pub below : (a b : ℕ) → a ≤ b → a ≢ b → a < b
below a b l n = elim (cases_lt a b) [ inl m ↦ m | inr m ↦ absurd (n (omega arith)) ]

pub fewer : (order : MonomialOrder) (start old new : State) (w : Waiting) (budget done : ℕ) → done < budget → IsNext order old w →
    IsSettling order start (with_pair w old) done → IsSettledBy order old new w.first w.second → left_over budget (length start.members) new (done + 1) <
    left_over budget (length start.members) (with_pair w old) done
fewer order start old new w budget done l next h b =
    let e : budget - done ≡ suc (budget - (done + 1)) = omega arith in
    less ((budget - done) * (length start.members + budget + 2)) ((budget - (done + 1)) * (length start.members + budget + 2)) (length start.members + budget +
    2) (length old.members) (suc (length old.queue)) (length new.queue) (ap (λ (z : ℕ). z * (length start.members + budget + 2)) e ∙ omega arith)
    (omega (arith, ap length b.queue, (worked order old b.middle w next b.worked).queue)) (omega (arith, h.members))

-- with the queue as it was before the pair was taken out
plus_less : (x a b : ℕ) → a < b → x + a < x + b
plus_less x a b l = omega arith

pub skipped_fewer : (budget first done : ℕ) (members : List MarkedPolynomial) (table : PairMarks) (strategy : Strategy) (queue rest : List Waiting)
    (w : Waiting) → IsPermutation queue (w ∷ rest) → left_over budget first (record { members = members; table = table; queue = rest; strategy = strategy })
    done < left_over budget first (record { members = members; table = table; queue = queue; strategy = strategy }) done
skipped_fewer budget first done members table strategy queue rest w p =
    plus_less ((budget - done) * (first + budget + 2)) (length rest) (length queue) (omega (arith, length_permutation queue (w ∷ rest) p))

pub settled_fewer : (order : MonomialOrder) (start new : State) (members : List MarkedPolynomial) (table : PairMarks) (strategy : Strategy)
    (queue rest : List Waiting) (w : Waiting) (budget done : ℕ) → IsSomeRun order start → IsPermutation queue (w ∷ rest) → done ≤ budget → done ≢ budget →
    IsSettling order start (record { members = members; table = table; queue = queue; strategy = strategy }) done →
    IsSettledBy order (record { members = members; table = table; queue = rest; strategy = strategy }) new w.first w.second →
    left_over budget (length start.members) new (done + 1) < left_over budget (length start.members)
    (record { members = members; table = table; queue = queue; strategy = strategy }) done
settled_fewer order start new members table strategy queue rest w budget done some p l n h b =
    let q = settling-popped order start members table strategy queue rest w done p h in
    subst (λ (k : ℕ). left_over budget (length start.members) new (done + 1) < (budget - done) * (length start.members + budget + 2) + k)
    (length_permutation queue (w ∷ rest) p)
    (fewer order start (record { members = members; table = table; queue = rest; strategy = strategy }) new w budget done (below done budget l n)
    (is_next order start (record { members = members; table = table; queue = rest; strategy = strategy }) w done some q) q b)

-- ---- stops

-- the next of a run whose pair was taken out
pub popped_next : (order : MonomialOrder) (start : State) (members : List MarkedPolynomial) (table : PairMarks) (strategy : Strategy)
    (queue rest : List Waiting) (w : Waiting) (done : ℕ) → IsSomeRun order start → IsPermutation queue (w ∷ rest) →
    IsSettling order start (record { members = members; table = table; queue = queue; strategy = strategy }) done →
    IsNext order (record { members = members; table = table; queue = rest; strategy = strategy }) w
popped_next order start members table strategy queue rest w done some p h =
    is_next order start (record { members = members; table = table; queue = rest; strategy = strategy }) w done some
    (settling-popped order start members table strategy queue rest w done p h)

pub is_refused_run : (order : MonomialOrder) (budget : ℕ) (start at : State) (w : Waiting) (done : ℕ) (e : PolyError) → done < budget →
    IsSettling order start (with_pair w at) done → IsFirst (w ∷ at.queue) w → IsSettlingRefusal order at w.first w.second e →
    IsStop order budget start (stops.Refused e)
is_refused_run order budget start at w done (errors.Overflow o) l h f r =
    record { done = done; within = l; at = at; pair = w; settling = h; first = f; refused = r }
is_refused_run order budget start at w done (errors.Exponent o) l h f r =
    record { done = done; within = l; at = at; pair = w; settling = h; first = f; refused = r }
is_refused_run order budget start at w done errors.Memory l h f r = tt

-- the pair that comes first of a queue comes first of it and the others
pub first_popped : (queue rest : List Waiting) (w : Waiting) → IsPermutation queue (w ∷ rest) → IsFirst queue w → IsFirst (w ∷ rest) w
first_popped queue rest w p f v c = f v (Contains-permutation (w ∷ rest) queue v (IsPermutation-sym queue (w ∷ rest) p) c)

-- ---- the end

pub drained : (order : MonomialOrder) (start : State) (members : List MarkedPolynomial) (table : PairMarks) (strategy : Strategy) (queue rest : List Waiting)
    (budget done : ℕ) → queue ≡ [] → rest ≡ [] → done ≤ budget →
    IsSettling order start (record { members = members; table = table; queue = queue; strategy = strategy }) done →
    IsWorkedThrough order budget start (record { members = members; table = table; queue = rest; strategy = strategy })
drained order start members table strategy queue rest budget done e f l h =
    record {
      done = done;
      within = l;
      settling = subst (λ (q : List Waiting). IsSettling order start (record { members = members; table = table; queue = q; strategy = strategy }) done)
          (e ∙ sym f) h;
      none = f;
    }
