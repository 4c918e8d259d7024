-- From one state of a run to the next: an excused pair and a reduced one are settled, and a state with a new member, or
-- with one mark more, is one of the run.
use Rattle.std.specs.Prelude.{◌≡◌, ◌≢◌, ◌⊎◌, ℕ, zero, suc, ◌<◌, ◌≤◌, true, false, List, [], ◌∷◌, ◌++◌, length, Contains, IsPermutation}
use Rattle.std.proofs.Common.{arith, refl, sym, ap, ◌∙◌, subst, inl, inr}
use Rattle.std.proofs.lemmas.Bool.{cases_lt}
use Rattle.std.proofs.lemmas.List.Sorted.{Contains-permutation, IsPermutation-sym}
use Rattle.gf_exponents_theory.specs.Exponents.{join, minus, plus}
use Rattle.gf_exponents_theory.proofs.ExponentsLaws.{same_of}
use Rattle.gf_exponents_theory.specs.SixOrders.{MonomialOrder, below_of}
use Rattle.gf_exponents_theory.proofs.SixOrdersLaws.{order-is}
use Rattle.gf_int_theory.proofs.ListLaws.{Contains-here, Contains-last}
use Rattle.gf_poly.specs.Polynomial.{Terms, HasVariables, coefficient}
use Rattle.gf_poly.specs.Marking.{MarkedPolynomial, polys}
use Rattle.gf_poly.proofs.MonomialLaws.{length-join, plus-minus}
use Rattle.gf_ideal_theory.specs.Membership.{AreInVariables, IsInVariables}
use Rattle.gf_ideal_theory.specs.Marks.{AreMarked}
use Rattle.gf_ideal_theory.specs.Reduction.{Reached, IsIrreducible}
use Rattle.gf_ideal_theory.specs.Settled.{IsAt, IsSettledPair}
use Rattle.gf_ideal_theory.specs.WorkLists.{IsOrigin, IsWorkList}
use Rattle.gf_ideal_theory.proofs.CriteriaLaws.{pair_by_steps, pair_by_product, pair_by_monomials, pair_by_chain, pair_turned, pair_more}
use Rattle.gf_ideal_theory.proofs.ListLaws.{Contains-there, Contains-cases}
use Rattle.gf_ideal_theory.proofs.ListedTerms.{variables_by_terms}
use Rattle.gf_ideal_theory.proofs.PieceLaws.{Contains-marked}
use Rattle.gf_ideal_theory.proofs.StepLaws.{reached-more}
use Rattle.gf_ideal_theory.proofs.WorkLaws.{work-marked}
use Rattle.gf_ideal_theory.proofs.DividingLaws.{member_contained}
use Rattle.gf_division.proofs.ReducerLaws.{members_equal}
use Rattle.gf_buchberger.specs.declared.queue.Strategy.{Strategy}
use Rattle.gf_buchberger.specs.declared.queue.Waiting.{Waiting}
use Rattle.gf_buchberger.specs.Pairs.{PairMarks, is_settled, with_settled, with_member}
use Rattle.gf_buchberger.specs.Runs.{MembersHaveVariables, AreComparable, IsJoinable, State, with_pair, IsWaiting, IsState, IsRun, PairsPushed, IsAppended}
use Rattle.gf_buchberger.specs.Runs.{CountsAsSettled, IsExcused, IsReducedPair}
use Rattle.gf_buchberger.proofs.PairsLaws.{settled-here, settled-before, settled-stays, settled-member_old, settled-member_new, IsPairTable-member}
use Rattle.gf_buchberger.proofs.PairsLaws.{IsPairTable-settled}
use Rattle.gf_buchberger.proofs.AppendLaws.{member_at}
use Rattle.gf_buchberger.specs.Covered.{IsCovered}
use Rattle.gf_buchberger.proofs.CoveredLaws.{covered_longer}

-- ---- states

pub state_eq : (s t : State) → s.members ≡ t.members → s.table ≡ t.table → s.queue ≡ t.queue → s.strategy ≡ t.strategy → s ≡ t
state_eq s t em et eq es =
    ap (λ (m : List MarkedPolynomial). let r : State = record { members = m; table = s.table; queue = s.queue; strategy = s.strategy } in r) em
    ∙ ap (λ (m : PairMarks). let r : State = record { members = t.members; table = m; queue = s.queue; strategy = s.strategy } in r) et
    ∙ ap (λ (q : List Waiting). let r : State = record { members = t.members; table = t.table; queue = q; strategy = s.strategy } in r) eq
    ∙ ap (λ (k : Strategy). let r : State = record { members = t.members; table = t.table; queue = t.queue; strategy = k } in r) es

pub in_variables : (n : ℕ) (bs : List MarkedPolynomial) → MembersHaveVariables n bs → AreInVariables n (polys bs)
in_variables n bs v f c = let m = Contains-marked bs f c in subst (IsInVariables n) m.2 (variables_by_terms n m.0.poly (v.polys m.0 m.1))

-- ---- indices in a longer list

pub at_old : (bs : List MarkedPolynomial) (b c : MarkedPolynomial) (i : ℕ) → i < length bs → IsAt (bs ++ b ∷ []) i c → IsAt bs i c
at_old [] b c i l h = absurd (omega arith)
at_old (a ∷ bs) b c zero l h = record { within = l; is = h.is }
at_old (a ∷ bs) b c (suc i) l h = record { within = l; is = (at_old bs b c i (omega arith) (record { within = omega (arith, h.within); is = h.is })).is }

pub length-last : (bs : List MarkedPolynomial) (b : MarkedPolynomial) → length (bs ++ b ∷ []) ≡ suc (length bs)
length-last [] b = refl
length-last (a ∷ bs) b = ap suc (length-last bs b)

pub contained_old : (bs : List MarkedPolynomial) (b c : MarkedPolynomial) → Contains bs c → Contains (bs ++ b ∷ []) c
contained_old [] b c h = absurd (omega (arith, h.1))
contained_old (a ∷ bs) b c h = at (Contains-cases a c bs h) (λ k. contained_old bs b c k)
  where
    at : (a ≡ c) ⊎ Contains bs c → (Contains bs c → Contains (bs ++ b ∷ []) c) → Contains (a ∷ bs ++ b ∷ []) c
    at (inl e) r = subst (λ (z : MarkedPolynomial). Contains (z ∷ bs ++ b ∷ []) c) (sym e) (Contains-here c (bs ++ b ∷ []))
    at (inr k) r = Contains-there a c (bs ++ b ∷ []) (r k)

contained_last : (bs : List MarkedPolynomial) (b : MarkedPolynomial) → Contains (bs ++ b ∷ []) b
contained_last [] b = Contains-here b []
contained_last (a ∷ bs) b = Contains-there a b (bs ++ b ∷ []) (contained_last bs b)

-- ---- settled pairs

run-marked : (order : MonomialOrder) (n : ℕ) (fs : List Terms) (s : State) → IsRun order n fs s → AreMarked (below_of order) s.members
run-marked order n fs s r = work-marked fs (below_of order) s.members r.work

settled_of_counts : (order : MonomialOrder) (n : ℕ) (fs : List Terms) (s : State) (p q : ℕ) (b c : MarkedPolynomial) → IsRun order n fs s →
    CountsAsSettled s p q → IsAt s.members p b → IsAt s.members q c → IsSettledPair n s.members (below_of order) b c
settled_of_counts order n fs s p q b c r (inl h) x y = r.settled p q b c h.0 x y h.1
settled_of_counts order n fs s p q b c r (inr (inl h)) x y = pair_turned n s.members (below_of order) c b (in_variables n s.members r.variables)
    (order-is order).strict (run-marked order n fs s r) (member_contained s.members q c y) (member_contained s.members p b x) (r.settled q p c b h.0 y x h.1)
settled_of_counts order n fs s p q b c r (inr (inr h)) x y = pair_by_product n s.members (below_of order) b c (in_variables n s.members r.variables)
    (order-is order).strict (run-marked order n fs s r) (member_contained s.members p b x) (member_contained s.members q c y) (h b c x y)

-- an excused pair is settled: Buchberger's product and chain criteria
pub excused_pair : (order : MonomialOrder) (n : ℕ) (fs : List Terms) (s : State) (i j : ℕ) (b c : MarkedPolynomial) → IsRun order n fs s → IsExcused s i j →
    IsAt s.members i b → IsAt s.members j c → IsSettledPair n s.members (below_of order) b c
excused_pair order n fs s i j b c r (inl h) x y = pair_by_product n s.members (below_of order) b c (in_variables n s.members r.variables)
    (order-is order).strict (run-marked order n fs s r) (member_contained s.members i b x) (member_contained s.members j c y) (h b c x y)
excused_pair order n fs s i j b c r (inr (inl h)) x y = let o = h b c x y in pair_by_monomials n s.members (below_of order) b c
    (in_variables n s.members r.variables) (order-is order).strict (run-marked order n fs s r) (member_contained s.members i b x)
    (member_contained s.members j c y) o.0 o.1
excused_pair order n fs s i j b c r (inr (inr (k, h))) x y = at (member_at s.members k h.inside)
  where
    at : (d : MarkedPolynomial) × IsAt s.members k d → IsSettledPair n s.members (below_of order) b c
    at d =
        let lb : length b.head ≡ n = r.variables.heads b (member_contained s.members i b x) in
        let lc : length c.head ≡ n = r.variables.heads c (member_contained s.members j c y) in
        let ld : length d.0.head ≡ n = r.variables.heads d.0 (member_contained s.members k d.0 d.1) in
        let long : length (join b.head c.head) ≡ length d.0.head = length-join b.head c.head (lb ∙ sym lc) ∙ lb ∙ sym ld in
        let e : join b.head c.head ≡ plus (minus (join b.head c.head) d.0.head) d.0.head =
        sym (plus-minus (join b.head c.head) d.0.head long (h.divides b c d.0 x y d.1)) in
        pair_by_chain n s.members (below_of order) b c d.0 (minus (join b.head c.head) d.0.head) (in_variables n s.members r.variables) (order-is order).strict
        (run-marked order n fs s r) (member_contained s.members i b x) (member_contained s.members j c y)
        (same_of (join b.head c.head) (plus (minus (join b.head c.head) d.0.head) d.0.head) e) (settled_of_counts order n fs s i k b d.0 r h.left x d.1)
        (settled_of_counts order n fs s k j d.0 c r h.right d.1 y)

-- ---- a new member

appended-waiting : (order : MonomialOrder) (n : ℕ) (fs : List Terms) (old : State) (b : MarkedPolynomial) (strategy : Strategy) (queue : List Waiting)
    (i j : ℕ) → IsRun order n fs old → PairsPushed strategy order (old.members ++ b ∷ []) old.queue queue (length old.members) (length old.members) → i < j →
    j < suc (length old.members) → (is_settled (with_member old.table) i j ≡ true) ⊎ IsWaiting queue i j ⊎ IsCovered (old.members ++ b ∷ []) i j
appended-waiting order n fs old b strategy queue i j r p l m = at (cases_lt j (length old.members))
  where
    before : j < length old.members → (is_settled old.table i j ≡ true) ⊎ IsWaiting old.queue i j ⊎ IsCovered old.members i j →
        (is_settled (with_member old.table) i j ≡ true) ⊎ IsWaiting queue i j ⊎ IsCovered (old.members ++ b ∷ []) i j
    before k (inl e) = inl (settled-member_old old.table i j r.state.table l (omega (arith, r.state.size)) ∙ e)
    before k (inr (inl w)) = inr (inl (record { pair = w.pair; contained = p.kept w.pair w.contained; first = w.first; second = w.second }))
    before k (inr (inr c)) = inr (inr (covered_longer old.members b i j c))

    new_pair : j ≡ length old.members → IsWaiting queue i (length old.members) ⊎ IsCovered (old.members ++ b ∷ []) i (length old.members) →
        (is_settled (with_member old.table) i j ≡ true) ⊎ IsWaiting queue i j ⊎ IsCovered (old.members ++ b ∷ []) i j
    new_pair e (inl w) = inr (inl (record { pair = w.pair; contained = w.contained; first = w.first; second = w.second ∙ sym e }))
    new_pair e (inr c) = inr (inr (subst (λ (z : ℕ). IsCovered (old.members ++ b ∷ []) i z) (sym e) c))

    at : (j < length old.members) ⊎ (length old.members ≤ j) → (is_settled (with_member old.table) i j ≡ true) ⊎ IsWaiting queue i j ⊎ IsCovered (old.members ++
        b ∷ []) i j
    at (inl k) = before k (r.waiting i j l k)
    at (inr k) = let e : j ≡ length old.members = omega arith in new_pair e (p.added i (omega arith))

appended-settled : (order : MonomialOrder) (n : ℕ) (fs : List Terms) (old : State) (d : MarkedPolynomial) (i j : ℕ) (b c : MarkedPolynomial) →
    IsRun order n fs old → i < j → IsAt (old.members ++ d ∷ []) i b → IsAt (old.members ++ d ∷ []) j c → is_settled (with_member old.table) i j ≡ true →
    IsSettledPair n (old.members ++ d ∷ []) (below_of order) b c
appended-settled order n fs old d i j b c r l x y e = at (cases_lt j (length old.members))
  where
    at : (j < length old.members) ⊎ (length old.members ≤ j) → IsSettledPair n (old.members ++ d ∷ []) (below_of order) b c
    at (inl k) = pair_more n old.members (old.members ++ d ∷ []) (below_of order) b c (λ a h. contained_old old.members d a h)
        (r.settled i j b c l (at_old old.members d b i (omega arith) x) (at_old old.members d c j k y)
        (sym (settled-member_old old.table i j r.state.table l (omega (arith, r.state.size))) ∙ e))
    at (inr k) =
        let s : j ≡ old.table.members = omega (arith, y.within, length-last old.members d, r.state.size) in
        let f : is_settled (with_member old.table) i j ≡ false =
        subst (λ (z : ℕ). is_settled (with_member old.table) i z ≡ false) (sym s) (settled-member_new old.table i r.state.table (omega arith)) in
        absurd (cc)

pub appended-variables : (n : ℕ) (bs : List MarkedPolynomial) (d : MarkedPolynomial) → MembersHaveVariables n bs → length d.head ≡ n → HasVariables n d.poly →
    MembersHaveVariables n (bs ++ d ∷ [])
appended-variables n bs d v h p = record { heads = λ b c. head b (Contains-last bs d b c); polys = λ b c. poly b (Contains-last bs d b c) }
  where
    head : (b : MarkedPolynomial) → Contains bs b ⊎ (b ≡ d) → length b.head ≡ n
    head b (inl c) = v.heads b c
    head b (inr e) = ap (λ (z : MarkedPolynomial). length z.head) e ∙ h

    poly : (b : MarkedPolynomial) → Contains bs b ⊎ (b ≡ d) → HasVariables n b.poly
    poly b (inl c) = v.polys b c
    poly b (inr e) = subst (λ (z : MarkedPolynomial). HasVariables n z.poly) (sym e) p

-- what the pairs of a new member ask for
pub joined_comparable : (order : MonomialOrder) (b : MarkedPolynomial) (bs cs : List MarkedPolynomial) → cs ≡ bs ++ b ∷ [] → IsJoinable order b bs →
    AreComparable order cs
joined_comparable order b bs cs e j =
    subst (AreComparable order) (sym e) (record { n = j.n; each = appended-variables j.n bs b j.members j.head j.poly; entries = j.entries })

appended-valid : (strategy : Strategy) (order : MonomialOrder) (old : State) (d : MarkedPolynomial) (queue : List Waiting) (w : Waiting) → IsState old →
    PairsPushed strategy order (old.members ++ d ∷ []) old.queue queue (length old.members) (length old.members) → Contains queue w → (w.first < w.second) ×
    (w.second < length (old.members ++ d ∷ []))
appended-valid strategy order old d queue w s p c = at (p.only w c)
  where
    at : Contains old.queue w ⊎ ((w.first < length old.members) × (w.second ≡ length old.members)) →
        (w.first < w.second) × (w.second < length (old.members ++ d ∷ []))
    at (inl k) = let v = s.valid w k in (v.0, omega (arith, v.1, length-last old.members d))
    at (inr k) = (omega (arith, k.0, k.1), omega (arith, k.1, length-last old.members d))

-- what is left of an origin, appended
pub run-appended : (order : MonomialOrder) (n : ℕ) (fs : List Terms) (old new : State) (f r : Terms) → IsRun order n fs old → IsOrigin fs old.members f →
    Reached (Contains old.members) f r → IsIrreducible (Contains old.members) r → HasVariables n r → IsAppended order r old new → IsRun order n fs new
run-appended order n fs old new f r run origin steps irreducible v a =
    subst (IsRun order n fs)
    (sym (state_eq new (record { members = old.members ++ a.member ∷ []; table = with_member old.table; queue = new.queue; strategy = new.strategy })
    a.members a.table refl refl))
    (record {
      work = IsWorkList.more old.members f r a.member run.work origin steps a.monic a.marked (λ d. irreducible a.member.head a.monic.there d);
      variables = appended-variables n old.members a.member run.variables (a.head n v) (a.poly n v);
      state =
          record {
            table = IsPairTable-member old.table run.state.table;
            size = ap suc run.state.size ∙ sym (length-last old.members a.member);
            valid = λ w c. appended-valid new.strategy order old a.member new.queue w run.state pairs c;
          };
      settled = λ i j b c l x y e. appended-settled order n fs old a.member i j b c run l x y e;
      waiting = λ i j l m. appended-waiting order n fs old a.member new.strategy new.queue i j run pairs l (omega (arith, m, length-last old.members a.member));
    })
  where
    pairs : PairsPushed new.strategy order (old.members ++ a.member ∷ []) old.queue new.queue (length old.members) (length old.members)
    pairs =
        subst
        (λ (bs : List MarkedPolynomial). PairsPushed new.strategy order bs old.queue new.queue (length old.members) (length old.members)) a.members a.pairs

-- ---- the pairs that wait

waiting-permuted : (p q : List Waiting) (i j : ℕ) → IsPermutation p q → IsWaiting p i j → IsWaiting q i j
waiting-permuted p q i j e w = record { pair = w.pair; contained = Contains-permutation p q w.pair e w.contained; first = w.first; second = w.second }

-- the same pairs in another order
pub run-permuted : (order : MonomialOrder) (n : ℕ) (fs : List Terms) (s t : State) → t.members ≡ s.members → t.table ≡ s.table → IsPermutation s.queue t.queue →
    IsRun order n fs s → IsRun order n fs t
run-permuted order n fs s t em et p r =
    subst (IsRun order n fs) (sym (state_eq t (record { members = s.members; table = s.table; queue = t.queue; strategy = t.strategy }) em et refl refl))
    (record {
      work = r.work;
      variables = r.variables;
      state = record {
        table = r.state.table;
        size = r.state.size;
        valid = λ w c. r.state.valid w (Contains-permutation t.queue s.queue w (IsPermutation-sym s.queue t.queue p) c);
      };
      settled = r.settled;
      waiting = λ i j l m. elim (r.waiting i j l m) [
        | inl e ↦ inl e
        | inr v ↦ elim v [ inl w ↦ inr (inl (waiting-permuted s.queue t.queue i j p w)) | inr c ↦ inr (inr c) ]
      ];
    })

-- the pair w, taken out, stays out where a member is appended
pub appended-beside : (order : MonomialOrder) (r : Terms) (w : Waiting) (old new : State) → IsAppended order r old new →
    IsAppended order r (with_pair w old) (with_pair w new)
appended-beside order r w old new a = record {
  member = a.member;
  monic = a.monic;
  marked = a.marked;
  poly = a.poly;
  head = a.head;
  members = a.members;
  table = a.table;
  pairs = record {
    kept = λ v c. elim (Contains-cases w v old.queue c) [
      | inl e ↦ subst (λ (z : Waiting). Contains (w ∷ new.queue) z) e (Contains-here w new.queue)
      | inr k ↦ Contains-there w v new.queue (a.pairs.kept v k)
    ];
    added = λ i l. elim (a.pairs.added i l) [
      | inl h ↦ inl (record { pair = h.pair; contained = Contains-there w h.pair new.queue h.contained; first = h.first; second = h.second })
      | inr c ↦ inr c
    ];
    only = λ v c. elim (Contains-cases w v new.queue c) [
      | inl e ↦ inl (subst (λ (z : Waiting). Contains (w ∷ old.queue) z) e (Contains-here w old.queue))
      | inr k ↦ elim (a.pairs.only v k) [ inl o ↦ inl (Contains-there w v old.queue o) | inr o ↦ inr o ]
    ];
    keyed = λ v c. elim (Contains-cases w v new.queue c) [
      | inl e ↦ inl (subst (λ (z : Waiting). Contains (w ∷ old.queue) z) e (Contains-here w old.queue))
      | inr k ↦ elim (a.pairs.keyed v k) [ inl o ↦ inl (Contains-there w v old.queue o) | inr o ↦ inr o ]
    ];
    count = omega (arith, a.pairs.count);
  };
  strategy = a.strategy;
}

-- ---- a pair worked off

-- the pair that was taken out is settled: its mark takes its place
pub run-settled : (order : MonomialOrder) (n : ℕ) (fs : List Terms) (w : Waiting) (s : State) → IsRun order n fs (with_pair w s) →
    ((b c : MarkedPolynomial) → IsAt s.members w.first b → IsAt s.members w.second c → IsSettledPair n s.members (below_of order) b c) →
    IsRun order n fs (record { members = s.members; table = with_settled s.table w.first w.second; queue = s.queue; strategy = s.strategy })
run-settled order n fs w s r h = record {
  work = r.work;
  variables = r.variables;
  state = record {
    table = IsPairTable-settled s.table w.first w.second r.state.table;
    size = r.state.size;
    valid = λ v c. r.state.valid v (Contains-there w v s.queue c);
  };
  settled = λ i j b c l x y e. settled_here i j b c l x y (settled-before s.table w.first w.second i j valid.0 l e);
  waiting = λ i j l m. index i j l m (r.waiting i j l m);
}
  where
    valid : (w.first < w.second) × (w.second < length s.members)
    valid = r.state.valid w (Contains-here w s.queue)

    settled_here : (i j : ℕ) (b c : MarkedPolynomial) → i < j → IsAt s.members i b → IsAt s.members j c →
        ((i ≡ w.first) × (j ≡ w.second)) ⊎ (is_settled s.table i j ≡ true) → IsSettledPair n s.members (below_of order) b c
    settled_here i j b c l x y (inl e) = h b c (subst (λ (z : ℕ). IsAt s.members z b) e.0 x) (subst (λ (z : ℕ). IsAt s.members z c) e.1 y)
    settled_here i j b c l x y (inr e) = r.settled i j b c l x y e

    kept : (i j : ℕ) → is_settled s.table i j ≡ true → is_settled (with_settled s.table w.first w.second) i j ≡ true
    kept i j e = settled-stays s.table w.first w.second i j r.state.table valid.0 (omega (arith, valid.1, r.state.size)) e

    back : (i j : ℕ) (v : Waiting) → v.first ≡ i → v.second ≡ j → (w ≡ v) ⊎ Contains s.queue v →
        (is_settled (with_settled s.table w.first w.second) i j ≡ true) ⊎ IsWaiting s.queue i j ⊎ IsCovered s.members i j
    back i j v f g (inl e) =
        let fi : w.first ≡ i = ap (λ (z : Waiting). z.first) e ∙ f in
        let sj : w.second ≡ j = ap (λ (z : Waiting). z.second) e ∙ g in
        inl (subst (λ (z : ℕ). is_settled (with_settled s.table w.first w.second) z j ≡ true) fi
        (subst (λ (z : ℕ). is_settled (with_settled s.table w.first w.second) w.first z ≡ true) sj
        (settled-here s.table w.first w.second r.state.table valid.0 (omega (arith, valid.1, r.state.size)))))
    back i j v f g (inr c) = inr (inl (record { pair = v; contained = c; first = f; second = g }))

    index : (i j : ℕ) → i < j → j < length s.members → (is_settled s.table i j ≡ true) ⊎ IsWaiting (w ∷ s.queue) i j ⊎ IsCovered s.members i j →
        (is_settled (with_settled s.table w.first w.second) i j ≡ true) ⊎ IsWaiting s.queue i j ⊎ IsCovered s.members i j
    index i j l m (inl e) = inl (kept i j e)
    index i j l m (inr (inl v)) = back i j v.pair v.first v.second (Contains-cases w v.pair s.queue v.contained)
    index i j l m (inr (inr c)) = inr (inr c)

-- a reduced pair is settled: what is left of it is zero, or a member's multiple
pub reduced_pair : (order : MonomialOrder) (n : ℕ) (fs : List Terms) (w : Waiting) (old new : State) → IsRun order n fs (with_pair w old) →
    IsReducedPair order old new w.first w.second → IsRun order n fs (with_pair w new) × ((b c : MarkedPolynomial) → IsAt new.members w.first b →
    IsAt new.members w.second c → IsSettledPair n new.members (below_of order) b c)
reduced_pair order n fs w old new run h = at h.left
  where
    steps : Reached (Contains old.members) h.s h.r
    steps = h.normal.reached

    in_b : Contains old.members h.b
    in_b = member_contained old.members w.first h.b h.at_i

    in_c : Contains old.members h.c
    in_c = member_contained old.members w.second h.c h.at_j

    gone : h.r ≡ [] → (b c : MarkedPolynomial) → IsAt old.members w.first b → IsAt old.members w.second c → IsSettledPair n old.members (below_of order) b c
    gone z b c x y =
        subst (λ (u : MarkedPolynomial). IsSettledPair n old.members (below_of order) u c) (members_equal old.members w.first h.b b h.at_i x)
        (subst (λ (u : MarkedPolynomial). IsSettledPair n old.members (below_of order) h.b u) (members_equal old.members w.second h.c c h.at_j y)
        (pair_by_steps n old.members (below_of order) h.b h.c h.s h.r (in_variables n old.members run.variables) (order-is order).strict
        (run-marked order n fs (with_pair w old) run) in_b in_c h.is_s steps (inl (λ x. ap (λ (f : Terms). coefficient f x) z))))

    longer : (a : IsAppended order h.r old new) → IsRun order n fs (with_pair w new) → (b c : MarkedPolynomial) → IsAt new.members w.first b →
        IsAt new.members w.second c → IsSettledPair n new.members (below_of order) b c
    longer a r b c x y =
        let old_b : IsAt old.members w.first b =
        at_old old.members a.member b w.first h.at_i.within (subst (λ (m : List MarkedPolynomial). IsAt m w.first b) a.members x) in
        let old_c : IsAt old.members w.second c = at_old old.members a.member c w.second h.at_j.within (subst (λ (m : List MarkedPolynomial). IsAt m w.second c)
        a.members y) in
        subst (λ (u : MarkedPolynomial). IsSettledPair n new.members (below_of order) u c) (members_equal old.members w.first h.b b h.at_i old_b)
        (subst (λ (u : MarkedPolynomial). IsSettledPair n new.members (below_of order) h.b u) (members_equal old.members w.second h.c c h.at_j old_c)
        (pair_by_steps n new.members (below_of order) h.b h.c h.s h.r (in_variables n new.members r.variables) (order-is order).strict
        (run-marked order n fs (with_pair w new) r) (keep a h.b in_b) (keep a h.c in_c) h.is_s (reached-more (Contains old.members) (Contains new.members)
        h.s h.r (λ d k. keep a d k) steps) (inr (
          a.member,
          subst (λ (m : List MarkedPolynomial). Contains m a.member) (sym a.members)
              (contained_last old.members a.member),
          a.monic,
        ))))
      where
        keep : IsAppended order h.r old new → (d : MarkedPolynomial) → Contains old.members d → Contains new.members d
        keep a d k = subst (λ (m : List MarkedPolynomial). Contains m d) (sym a.members) (contained_old old.members a.member d k)

    at : ((h.r ≡ []) × (new ≡ old)) ⊎ ((h.r ≢ []) × IsAppended order h.r old new) → IsRun order n fs (with_pair w new) × ((b c : MarkedPolynomial) →
        IsAt new.members w.first b → IsAt new.members w.second c → IsSettledPair n new.members (below_of order) b c)
    at (inl (z, e)) = subst (λ (t : State). IsRun order n fs (with_pair w t) × ((b c : MarkedPolynomial) → IsAt t.members w.first b →
        IsAt t.members w.second c → IsSettledPair n t.members (below_of order) b c)) (sym e) (run, gone z)
    at (inr (z, a)) =
        let r : IsRun order n fs (with_pair w new) = run-appended order n fs (with_pair w old) (with_pair w new) h.s h.r run
        (inr (h.b, h.c, in_b, in_c, h.is_s)) steps h.normal.irreducible (h.variables n run.variables) (appended-beside order h.r w old new a) in
        (r, longer a r)
