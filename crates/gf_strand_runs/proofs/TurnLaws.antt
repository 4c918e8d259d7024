-- A run that takes the pairs in turn, one step further, and its end: a reduced Gröbner basis.
-- To cite: kept-same, kept-more, entering-taken, entering_end, turning-row, IsTurnedOn, each-take, turned_on, turn_end, IsWhole, whole-start, whole-more,
-- IsRowTaken, row-none, row-more, row_turning.
use Rattle.std.proofs.Common.{◌≡◌, ◌≢◌, ◌⊎◌, ℕ, zero, suc, ◌+◌, ◌<◌, ◌≤◌, List, [], ◌∷◌, ◌++◌, length, take, Contains, arith, refl, sym, ap, ◌∙◌, subst, inl}
use Rattle.std.proofs.Common.{inr}
use Rattle.std.proofs.lemmas.Bool.{cases_lt}
use Rattle.std.proofs.lemmas.List.{get_or_push}
use Rattle.gf_exponents_theory.specs.SixOrders.{MonomialOrder, below_of}
use Rattle.gf_exponents_theory.proofs.SixOrdersLaws.{order-is}
use Rattle.gf_poly.specs.Polynomial.{Terms, HasVariables, coefficient}
use Rattle.gf_exponents_theory.specs.Exponents.{Exponents, Divides, plus, minus, join}
use Rattle.gf_exponents_theory.proofs.ExponentsLaws.{same_of}
use Rattle.gf_poly.specs.Marking.{MarkedPolynomial, polys, Each}
use Rattle.gf_poly.proofs.MonomialLaws.{length-join, plus-minus}
use Rattle.gf_ideal_theory.specs.Membership.{HasMonomial, AreInVariables, IsInVariables, IsMember}
use Rattle.gf_ideal_theory.specs.Marks.{AreMarked}
use Rattle.gf_ideal_theory.specs.Reduction.{IsIrreducible, Reached, IsKept}
use Rattle.gf_ideal_theory.specs.Settled.{IsAt, IsSettledPair}
use Rattle.gf_ideal_theory.specs.WorkLists.{IsOrigin, IsWorkList}
use Rattle.gf_ideal_theory.proofs.CriteriaLaws.{pair_by_steps, pair_by_product, pair_by_monomials, pair_by_chain, pair_turned, pair_more}
use Rattle.gf_ideal_theory.proofs.GeneratorLaws.{entered-zero, entered-appended}
use Rattle.gf_ideal_theory.proofs.ListedTerms.{variables_by_terms}
use Rattle.gf_ideal_theory.proofs.MembershipLaws.{member-generator, member-trans}
use Rattle.gf_ideal_theory.proofs.ListLaws.{Contains-cases, Contains-there}
use Rattle.gf_ideal_theory.proofs.PieceLaws.{Contains-polys, Contains-marked}
use Rattle.gf_ideal_theory.proofs.StepLaws.{monic-monomials, reached-more}
use Rattle.gf_ideal_theory.proofs.WorkLaws.{run_basis, work-marked}
use Rattle.gf_ideal_theory.proofs.DividingLaws.{member_contained}
use Rattle.gf_buchberger.specs.Runs.{MembersHaveVariables}
use Rattle.gf_buchberger.proofs.BasesOfRuns.{IsEnd}
use Rattle.gf_buchberger.proofs.TaskLaws.{ring_variables}
use Rattle.gf_buchberger.proofs.RunSteps.{in_variables, length-last, contained_old, at_old, appended-variables}
use Rattle.gf_strand_runs.proofs.CoverLaws.{covered_pair}
use Rattle.gf_strands.specs.Monomials.{AreLaterUndivided}
use Rattle.gf_strand_runs.specs.Turns.{ArePairExcused, IsChained, IsPairTaken, IsUnderway, AreTakenIn, IsEntering, AreSingleTo, IsEarlier, HasTurning}
use Rattle.gf_strand_runs.specs.Turns.{KeepsTurning, IsTurning, AreKeptIn}
use Rattle.gf_strands.specs.Forms.{IsGrown, IsTakenIn}
use Rattle.gf_division.proofs.ReducerLaws.{members_equal}
use Rattle.std.proofs.lemmas.List.Elements.{Contains-push}
use Rattle.gf_int_theory.proofs.ListLaws.{Contains-here}

-- ---- lists of a run

underway_marked : (order : MonomialOrder) (n : ℕ) (fs : List Terms) (bs : List MarkedPolynomial) → IsUnderway order n fs bs → AreMarked (below_of order) bs
underway_marked order n fs bs u = work-marked fs (below_of order) bs u.work

pub kept-same : (bs : List MarkedPolynomial) → AreKeptIn bs bs
kept-same bs = record { at = λ b c. c }

pub kept-more : (xs bs cs : List MarkedPolynomial) → AreKeptIn xs bs → AreKeptIn bs cs → AreKeptIn xs cs
kept-more xs bs cs h k = record { at = λ b c. k.at b (h.at b c) }

-- what is in the ideal of the members stays there
member_kept : (n : ℕ) (old new : List MarkedPolynomial) (f : Terms) → AreInVariables n (polys new) → AreKeptIn old new → IsMember n (polys old) f →
    IsMember n (polys new) f
member_kept n old new f v k m = member-trans n (polys new) (polys old) f v (λ g c. at g (Contains-marked old g c)) m
  where
    at : (g : Terms) → (b : MarkedPolynomial) × Contains old b × (b.poly ≡ g) → IsMember n (polys new) g
    at g b = member-generator n (polys new) g (subst (Contains (polys new)) b.2 (Contains-polys new b.0 (k.at b.0 b.1)))

-- ---- a polynomial is taken in

-- what follows where an origin of the run was taken in
record IsFurtherOn (order : MonomialOrder) (n : ℕ) (fs : List Terms) (f : Terms) (old new : List MarkedPolynomial) : Type 0 where
  underway : IsUnderway order n fs new
  kept : AreKeptIn old new
  size : length old ≤ length new
  remainder : Terms
  reached : Reached (Contains new) f remainder
  settled : IsKept (Contains new) remainder

-- no mark of the old members divides a monomial of the new one
later_more : (bs : List MarkedPolynomial) (b : MarkedPolynomial) → AreLaterUndivided bs → IsIrreducible (Contains bs) b.poly → AreLaterUndivided (bs ++ b ∷ [])
later_more bs b r n = record { none = λ i j c d l x y m h v. at i j c d l x y (cases_lt j (length bs)) m h v }
  where
    at : (i j : ℕ) (c d : MarkedPolynomial) → i < j → IsAt (bs ++ b ∷ []) i c → IsAt (bs ++ b ∷ []) j d → (j < length bs) ⊎ (length bs ≤ j) → (m : Exponents) →
        HasMonomial d.poly m → Divides c.head m → ⊥
    at i j c d l x y (inl k) m h v = r.none i j c d l (at_old bs b c i (omega (arith, l, k)) x) (at_old bs b d j k y) m h v
    at i j c d l x y (inr k) m h v =
        let s : length bs ≡ j = omega (arith, k, y.within, length-last bs b) in
        let e : d ≡ b = sym y.is ∙ get_or_push bs b d j s in
        n m (subst (λ (z : MarkedPolynomial). HasMonomial z.poly m) e h)
        (record { member = c; contained = member_contained bs i c (at_old bs b c i (omega (arith, l, s)) x); rest = v.rest; divides = v.product })

further_on : (order : MonomialOrder) (n : ℕ) (fs : List Terms) (f : Terms) (old new : List MarkedPolynomial) → IsUnderway order n fs old → IsOrigin fs old f →
    HasVariables n f → IsTakenIn order f old new → IsFurtherOn order n fs f old new
further_on order n fs f old new u origin v t = at t.left
  where
    steps : Reached (Contains old) f t.r
    steps = t.normal.reached

    grown : (t.r ≢ []) → (g : IsGrown order t.r old new) → IsFurtherOn order n fs f old new
    grown z g = subst (IsFurtherOn order n fs f old) (sym g.members) (record {
      underway = record {
        task = u.task;
        work = IsWorkList.more old f t.r g.member u.work origin steps g.monic g.marked (λ d. t.normal.irreducible g.member.head g.monic.there d);
        variables = appended-variables n old g.member u.variables (g.head n (t.variables.at n v)) (g.poly n (t.variables.at n v));
        later = later_more old g.member u.later (λ x h d. t.normal.irreducible x (monic-monomials t.r g.member g.monic x h) d);
      };
      kept = record { at = λ b c. contained_old old g.member b c };
      size = omega (arith, length-last old g.member);
      remainder = t.r;
      reached = reached-more (Contains old) (Contains (old ++ g.member ∷ [])) f t.r (λ d k. contained_old old g.member d k) steps;
      settled = inr (g.member, Contains-push old g.member, g.monic);
    })

    at : ((t.r ≡ []) × (new ≡ old)) ⊎ ((t.r ≢ []) × IsGrown order t.r old new) → IsFurtherOn order n fs f old new
    at (inl (z, e)) = subst (IsFurtherOn order n fs f old) (sym e) (record {
      underway = u;
      kept = kept-same old;
      size = omega arith;
      remainder = t.r;
      reached = steps;
      settled = inl (λ x. ap (λ (g : Terms). coefficient g x) z);
    })
    at (inr (z, g)) = grown z g

-- ---- the polynomials

-- the first of them is taken in
pub entering-taken : (order : MonomialOrder) (n : ℕ) (fs : List Terms) (f : Terms) (ws : List Terms) (old new : List MarkedPolynomial) →
    IsTakenIn order f old new → IsEntering order n fs (f ∷ ws) old → IsEntering order n fs ws new
entering-taken order n fs f ws old new t h = record {
  underway = w.underway;
  inside = λ g c. at g (h.inside g c);
  within = λ g c. h.within g (Contains-there f g ws c);
}
  where
    there : Contains fs f
    there = h.within f (Contains-here f ws)

    has : HasVariables n f
    has = h.underway.task.ring.each f there

    w : IsFurtherOn order n fs f old new
    w = further_on order n fs f old new h.underway (inl there) has t

    in_ring : IsInVariables n f
    in_ring = variables_by_terms n f has

    steps : Reached (Contains old) f t.r
    steps = t.normal.reached

    here : IsMember n (polys new) f
    here = elim t.left [
      | inl z ↦ subst (λ (m : List MarkedPolynomial). IsMember n (polys m) f) (sym z.1) (entered-zero n old f t.r (in_variables n old h.underway.variables)
          in_ring steps (λ x. ap (λ (g : Terms). coefficient g x) z.0))
      | inr z ↦ subst (λ (m : List MarkedPolynomial). IsMember n (polys m) f) (sym z.1.members)
          (entered-appended n old f t.r z.1.member (subst (λ (m : List MarkedPolynomial). AreInVariables n (polys m)) z.1.members
          (in_variables n new w.underway.variables)) in_ring steps z.1.monic)
    ]

    at : (g : Terms) → IsMember n (polys old) g ⊎ Contains (f ∷ ws) g → IsMember n (polys new) g ⊎ Contains ws g
    at g (inl m) = inl (member_kept n old new g (in_variables n new w.underway.variables) w.kept m)
    at g (inr c) = elim (Contains-cases f g ws c) [ inl e ↦ inl (subst (IsMember n (polys new)) e here) | inr k ↦ inr k ]

-- none waits
pub entering_end : (order : MonomialOrder) (n : ℕ) (fs ws : List Terms) (bs : List MarkedPolynomial) → ws ≡ [] → IsEntering order n fs ws bs →
    AreTakenIn n fs bs
entering_end order n fs ws bs e h = record {
  inside = λ f c. elim (h.inside f c) [
    | inl m ↦ m
    | inr w ↦ (let k : Contains [] f = subst (λ (z : List Terms). Contains z f) e w in absurd (omega (arith, k.1)))
  ];
}

-- those that are taken in stay so
entered-kept : (n : ℕ) (fs : List Terms) (old new : List MarkedPolynomial) → MembersHaveVariables n new → AreKeptIn old new → AreTakenIn n fs old →
    AreTakenIn n fs new
entered-kept n fs old new v k h = record { inside = λ f c. member_kept n old new f (in_variables n new v) k (h.inside f c) }

-- ---- the pairs

-- the row is done
pub turning-row : (order : MonomialOrder) (n : ℕ) (fs : List Terms) (bs : List MarkedPolynomial) (i j : ℕ) → j ≤ i → IsTurning order n fs bs i j →
    IsTurning order n fs bs 0 (j + 1)
turning-row order n fs bs i j l t = record { underway = t.underway; settled = λ p q b c m e x y. t.settled p q b c m (at p q m e (cases_lt q j)) x y }
  where
    at : (p q : ℕ) → p < q → IsEarlier p q 0 (j + 1) → (q < j) ⊎ (j ≤ q) → IsEarlier p q i j
    at p q m e (inl k) = inl k
    at p q m (inl s) (inr k) = inr (omega arith, omega arith)
    at p q m (inr s) (inr k) = absurd (omega (arith, s.1))

before_of_taken : (order : MonomialOrder) (f : Terms) (old new : List MarkedPolynomial) (i : ℕ) (c : MarkedPolynomial) → IsTakenIn order f old new →
    i < length old → IsAt new i c → IsAt old i c
before_of_taken order f old new i c t l h = elim t.left [
  | inl z ↦ subst (λ (m : List MarkedPolynomial). IsAt m i c) z.1 h
  | inr z ↦ at_old old z.1.member c i l (subst (λ (m : List MarkedPolynomial). IsAt m i c) z.1.members h)
]

-- one pair more
pub record IsTurnedOn (order : MonomialOrder) (n : ℕ) (fs : List Terms) (old new : List MarkedPolynomial) (i j : ℕ) : Type 0 where
  pub turning : IsTurning order n fs new i j
  pub kept : AreKeptIn old new
  pub size : length old ≤ length new

earlier_or_here : (p q i j : ℕ) → IsEarlier p q (i + 1) j → IsEarlier p q i j ⊎ ((p ≡ i) × (q ≡ j))
earlier_or_here p q i j (inl l) = inl (inl l)
earlier_or_here p q i j (inr (e, l)) = elim (cases_lt p i) [ inl m ↦ inl (inr (e, m)) | inr m ↦ inr (omega arith, e) ]

-- with the pair of i and j all pairs before the next one are settled
settled_to : (order : MonomialOrder) (n : ℕ) (fs : List Terms) (bs : List MarkedPolynomial) (i j : ℕ) (b c : MarkedPolynomial) → IsTurning order n fs bs i j →
    IsAt bs i b → IsAt bs j c → IsSettledPair n bs (below_of order) b c → IsTurning order n fs bs (i + 1) j
settled_to order n fs bs i j b c t x y h = record { underway = t.underway; settled = λ p q d g s r u v. at p q d g s (earlier_or_here p q i j r) u v }
  where
    at : (p q : ℕ) (d g : MarkedPolynomial) → p < q → IsEarlier p q i j ⊎ ((p ≡ i) × (q ≡ j)) → IsAt bs p d → IsAt bs q g →
        IsSettledPair n bs (below_of order) d g
    at p q d g s (inl r) u v = t.settled p q d g s r u v
    at p q d g s (inr r) u v =
        subst (λ (z : MarkedPolynomial). IsSettledPair n bs (below_of order) z g) (members_equal bs i b d x (subst (λ (z : ℕ). IsAt bs z d) r.0 u))
        (subst (λ (z : MarkedPolynomial). IsSettledPair n bs (below_of order) b z) (members_equal bs j c g y (subst (λ (z : ℕ). IsAt bs z g) r.1 v)) h)

-- an excused pair is settled
excused_pair : (order : MonomialOrder) (n : ℕ) (fs : List Terms) (bs : List MarkedPolynomial) (i j : ℕ) (b c : MarkedPolynomial) → IsUnderway order n fs bs →
    IsAt bs i b → IsAt bs j c → ArePairExcused b c → IsSettledPair n bs (below_of order) b c
excused_pair order n fs bs i j b c w x y (inl s) = pair_by_monomials n bs (below_of order) b c (in_variables n bs w.variables) (order-is order).strict
    (underway_marked order n fs bs w) (member_contained bs i b x) (member_contained bs j c y) s.0 s.1
excused_pair order n fs bs i j b c w x y (inr s) = pair_by_product n bs (below_of order) b c (in_variables n bs w.variables) (order-is order).strict
    (underway_marked order n fs bs w) (member_contained bs i b x) (member_contained bs j c y) s

-- the first members, at their indices
at_front : (bs : List MarkedPolynomial) (i k : ℕ) (d : MarkedPolynomial) → IsAt (take i bs) k d → IsAt bs k d × (k < i)
at_front bs zero k d h = absurd (omega (arith, h.within))
at_front [] (suc i) k d h = absurd (omega (arith, h.within))
at_front (a ∷ bs) (suc i) zero d h = (record { within = omega arith; is = h.is }, omega arith)
at_front (a ∷ bs) (suc i) (suc k) d h =
    let r = at_front bs i k d (record { within = omega (arith, h.within); is = h.is }) in
    (record { within = omega (arith, r.0.within); is = r.0.is }, omega (arith, r.1))

pub each-take : {A : Type 0} (P : A → Type 0) (i : ℕ) (xs : List A) → Each P xs → Each P (take i xs)
each-take P zero xs h = tt
each-take P (suc i) [] h = tt
each-take P (suc i) (x ∷ xs) h = (h.0, each-take P i xs h.1)

-- a pair is settled by a chain: those of a member before both are
chained_pair : (order : MonomialOrder) (n : ℕ) (fs : List Terms) (bs : List MarkedPolynomial) (i j : ℕ) (b c : MarkedPolynomial) → i < j →
    IsTurning order n fs bs i j → IsAt bs i b → IsAt bs j c → IsChained (take i bs) (join b.head c.head) → IsSettledPair n bs (below_of order) b c
chained_pair order n fs bs i j b c l t x y h =
    pair_by_chain n bs (below_of order) b c d (minus m d.head) ring (order-is order).strict marked hb hc (same_of m (plus (minus m d.head) d.head) e)
    (pair_turned n bs (below_of order) d b ring (order-is order).strict marked hd hb (t.settled k i d b f.1 (inl l) f.0 x))
    (t.settled k j d c (omega (arith, f.1, l)) (inr (refl, f.1)) f.0 y)
  where
    k : ℕ
    k = h.index

    d : MarkedPolynomial
    d = h.member

    f : IsAt bs k d × (k < i)
    f = at_front bs i k d h.at

    m : Exponents
    m = join b.head c.head

    ring : AreInVariables n (polys bs)
    ring = in_variables n bs t.underway.variables

    marked : AreMarked (below_of order) bs
    marked = underway_marked order n fs bs t.underway

    hb : Contains bs b
    hb = member_contained bs i b x

    hc : Contains bs c
    hc = member_contained bs j c y

    hd : Contains bs d
    hd = member_contained bs k d f.0

    lb : length b.head ≡ n
    lb = t.underway.variables.heads b hb

    long : length m ≡ length d.head
    long = length-join b.head c.head (lb ∙ sym (t.underway.variables.heads c hc)) ∙ lb ∙ sym (t.underway.variables.heads d hd)

    e : m ≡ plus (minus m d.head) d.head
    e = sym (plus-minus m d.head long h.divides)

pub turned_on : (order : MonomialOrder) (n : ℕ) (fs : List Terms) (old new : List MarkedPolynomial) (i j : ℕ) → i < j → j < length old →
    IsTurning order n fs old i j → IsPairTaken order i j old new → IsTurnedOn order n fs old new (i + 1) j
turned_on order n fs old new i j l m t (IsPairTaken.excused b c x y o e) =
    subst (λ (z : List MarkedPolynomial). IsTurnedOn order n fs old z (i + 1) j) (sym e) (record {
      turning = settled_to order n fs old i j b c t x y (excused_pair order n fs old i j b c t.underway x y o);
      kept = kept-same old;
      size = omega arith;
    })
turned_on order n fs old new i j l m t (IsPairTaken.chained b c x y h e) =
    subst (λ (z : List MarkedPolynomial). IsTurnedOn order n fs old z (i + 1) j) (sym e) (record {
      turning = settled_to order n fs old i j b c t x y (chained_pair order n fs old i j b c l t x y h);
      kept = kept-same old;
      size = omega arith;
    })
turned_on order n fs old new i j l m t (IsPairTaken.covered b c x y h e) =
    subst (λ (z : List MarkedPolynomial). IsTurnedOn order n fs old z (i + 1) j) (sym e) (record {
      turning = settled_to order n fs old i j b c t x y (covered_pair n old (below_of order) b c (in_variables n old t.underway.variables)
          (order-is order).strict
          (underway_marked order n fs old t.underway) (member_contained old i b x) (member_contained old j c y) h);
      kept = kept-same old;
      size = omega arith;
    })
turned_on order n fs old new i j l m t (IsPairTaken.reduced b c s x y is_s has taken) = record {
  turning = record { underway = w.underway; settled = λ p q d g o r u v. at p q d g o (earlier_or_here p q i j r) u v };
  kept = w.kept;
  size = w.size;
}
  where
    in_b : Contains old b
    in_b = member_contained old i b x

    in_c : Contains old c
    in_c = member_contained old j c y

    w : IsFurtherOn order n fs s old new
    w = further_on order n fs s old new t.underway (inr (b, c, in_b, in_c, is_s)) (has n t.underway.variables) taken

    pair : IsSettledPair n new (below_of order) b c
    pair = pair_by_steps n new (below_of order) b c s w.remainder (in_variables n new w.underway.variables) (order-is order).strict
        (underway_marked order n fs new w.underway) (w.kept.at b in_b) (w.kept.at c in_c) is_s w.reached w.settled

    old_at : (k : ℕ) (d : MarkedPolynomial) → k < length old → IsAt new k d → IsAt old k d
    old_at k d h u = before_of_taken order s old new k d taken h u

    at : (p q : ℕ) (d g : MarkedPolynomial) → p < q → IsEarlier p q i j ⊎ ((p ≡ i) × (q ≡ j)) → IsAt new p d → IsAt new q g →
        IsSettledPair n new (below_of order) d g
    at p q d g o (inl r) u v =
        let k : q ≤ j = elim r [ inl h ↦ omega arith | inr h ↦ omega (arith, h.0) ] in
        pair_more n old new (below_of order) d g w.kept.at (t.settled p q d g o r (old_at p d (omega arith) u) (old_at q g (omega arith) v))
    at p q d g o (inr r) u v =
        subst (λ (z : MarkedPolynomial). IsSettledPair n new (below_of order) z g)
        (members_equal old i b d x (subst (λ (z : ℕ). IsAt old z d) r.0 (old_at p d (omega (arith, r.0)) u)))
        (subst (λ (z : MarkedPolynomial). IsSettledPair n new (below_of order) b z)
        (members_equal old j c g y (subst (λ (z : ℕ). IsAt old z g) r.1 (old_at q g (omega (arith, r.1)) v))) pair)

-- ---- the end

-- all pairs are settled, and all polynomials are in the ideal: the members are a basis
pub turn_end : (order : MonomialOrder) (n : ℕ) (fs : List Terms) (bs : List MarkedPolynomial) (j : ℕ) → j ≡ length bs → IsTurning order n fs bs 0 j →
    AreTakenIn n fs bs → IsEnd order n fs bs
turn_end order n fs bs j e t h = record {
  task = t.underway.task;
  work = t.underway.work;
  variables = t.underway.variables;
  basis = run_basis order n t.underway.task.suited.grade fs bs t.underway.task.suited.admissible (ring_variables n fs t.underway.task.ring)
      t.underway.task.suited.homogeneous t.underway.work h.inside
      (λ p q b c l x y. t.settled p q b c l (inl (omega (arith, y.within))) x y);
}

-- ---- as the code stands

-- all polynomials are taken in, and the pairs of the members before j are settled
pub record IsWhole (order : MonomialOrder) (n : ℕ) (fs : List Terms) (bs : List MarkedPolynomial) (j : ℕ) : Type 0 where
  pub turning : IsTurning order n fs bs 0 j
  pub entered : AreTakenIn n fs bs
  pub within : j ≤ length bs

-- the pairs of members that are one term alone are settled
pub whole-start : (order : MonomialOrder) (n : ℕ) (fs : List Terms) (bs : List MarkedPolynomial) (k : ℕ) → IsUnderway order n fs bs → AreTakenIn n fs bs →
    k ≤ length bs → AreSingleTo bs k → IsWhole order n fs bs k
whole-start order n fs bs k u h l s = record { turning = record { underway = u; settled = λ p q b c m e x y. at p q b c m e x y }; entered = h; within = l }
  where
    at : (p q : ℕ) (b c : MarkedPolynomial) → p < q → IsEarlier p q 0 k → IsAt bs p b → IsAt bs q c → IsSettledPair n bs (below_of order) b c
    at p q b c m (inl e) x y = excused_pair order n fs bs p q b c u x y (inl (s p b (omega (arith, m, e)) x, s q c e y))
    at p q b c m (inr e) x y = absurd (omega (arith, e.1))

pub whole-more : (order : MonomialOrder) (n : ℕ) (fs : List Terms) (old new : List MarkedPolynomial) (j : ℕ) → KeepsTurning order n old 0 j new 0 (j + 1) →
    AreKeptIn old new → length old ≤ length new → j < length old → IsWhole order n fs old j → IsWhole order n fs new (j + 1)
whole-more order n fs old new j t k l m h = let s = t.at fs h.turning in record {
  turning = s;
  entered = entered-kept n fs old new s.underway.variables k h.entered;
  within = omega (arith, l, m);
}

-- ---- a row, as the code stands

-- from the start of the row to the pair of i and j
pub record IsRowTaken (order : MonomialOrder) (n : ℕ) (start bs : List MarkedPolynomial) (i j : ℕ) : Type 0 where
  pub turning : KeepsTurning order n start 0 j bs i j
  pub kept : AreKeptIn start bs
  pub size : length start ≤ length bs

pub row-none : (order : MonomialOrder) (n : ℕ) (bs : List MarkedPolynomial) (j : ℕ) → IsRowTaken order n bs bs 0 j
row-none order n bs j = record { turning = record { at = λ fs t. t }; kept = kept-same bs; size = omega arith }

pub row-more : (order : MonomialOrder) (n : ℕ) (start old new : List MarkedPolynomial) (i k j : ℕ) → KeepsTurning order n old i j new k j → AreKeptIn old new →
    length old ≤ length new → IsRowTaken order n start old i j → IsRowTaken order n start new k j
row-more order n start old new i k j t m l h = record {
  turning = record { at = λ fs s. t.at fs (h.turning.at fs s) };
  kept = kept-more start old new h.kept m;
  size = omega (arith, l, h.size);
}

-- what it goes on with
pub row_turning : (order : MonomialOrder) (n : ℕ) (start bs : List MarkedPolynomial) (i j : ℕ) → HasTurning order n start 0 j →
    IsRowTaken order n start bs i j → HasTurning order n bs i j
row_turning order n start bs i j t h = record { polynomials = t.polynomials; turning = h.turning.at t.polynomials t.turning }
