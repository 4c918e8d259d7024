-- Tails of lifts reduced in place, one lift after another: what the list is, and that each tail is reduced in the end.
-- To cite: turned-length, turned_weight, turned_variables, turned_tails, turned_canonical.
use Rattle.std.proofs.Common.{◌≡◌, ◌⊎◌, ℕ, zero, suc, ◌+◌, ◌<◌, ◌≤◌, Bool, false, List, [], ◌∷◌, length, get_or, set, Contains, arith, refl, sym, ap, ◌∙◌}
use Rattle.std.proofs.Common.{subst, inl, inr}
use Rattle.std.proofs.lemmas.Bool.{cases_lt, cases_eq}
use Rattle.std.proofs.lemmas.List.{length-set}
use Rattle.gf_exponents_theory.specs.Exponents.{Exponents}
use Rattle.gf_exponents_theory.specs.Orders.{lighter}
use Rattle.gf_exponents_theory.proofs.ExponentsLaws.{same-refl}
use Rattle.gf_exponents_theory.proofs.OrderLaws.{lighter-strict}
use Rattle.gf_poly.specs.declared.Term.{Term}
use Rattle.gf_poly.specs.Polynomial.{HasVariables}
use Rattle.gf_poly.specs.Marking.{MarkedPolynomial, HaveVariables}
use Rattle.gf_ideal_theory.specs.Marks.{IsMarked, AreMarked}
use Rattle.gf_ideal_theory.specs.Settled.{IsAt}
use Rattle.gf_ideal_theory.specs.Bases.{HasReducedTails, IsCanonical}
use Rattle.gf_ideal_theory.specs.WorkLists.{IsTail, IsReducedTail, AreReducedTails}
use Rattle.gf_ideal_theory.proofs.ListLaws.{Each-weaker, each_contained}
use Rattle.gf_ideal_theory.proofs.InterreductionLaws.{tail-marked}
use Rattle.gf_division.specs.Autoreduction.{IsKeptForm}
use Rattle.gf_division.specs.NormalForms.{HasSomeWeight}
use Rattle.gf_division.proofs.ReducerLaws.{members_equal, member_contained, member_variables}
use Rattle.gf_division.proofs.TailLaws.{tail_reached}
use Rattle.gf_strands.specs.Members.{HasReducedTail}
use Rattle.gf_strands.proofs.IndexLaws.{at_index, set_cases, put_same, put_other, divisible_along}
use Rattle.gf_lifts.specs.LiftTails.{AreCopies, HasUndividedTail, IsReducedLift, IsNextInTurn, AreTailsInTurn}
use Rattle.gf_lifts.proofs.LiftTailLaws.{IsPassed, undivided_along, stay_reduced}

-- ---- one tail

-- it is marked as the members are
reduced_marked : (w : List ℕ) (bs : List MarkedPolynomial) (b c : MarkedPolynomial) → AreMarked (lighter w) bs → Contains bs b →
    IsReducedLift bs b c → IsMarked (lighter w) c
reduced_marked w bs b c m k r = subst (λ (x : Exponents). IsMarked (lighter w) (record { poly = c.poly; head = x })) (sym r.head)
    (tail-marked (lighter w) bs (record { poly = c.poly; head = b.head }) (lighter-strict w) m (tail_reached bs b c.poly k r.reached))

-- ---- one lift after another

next-length : (ms ns : List MarkedPolynomial) (flags : List Bool) (i : ℕ) → IsNextInTurn ms flags i ns → length ns ≡ length ms
next-length ms ns flags i (inl s) = ap (λ (z : List MarkedPolynomial). length z) s.0
next-length ms ns flags i (inr r) = ap (λ (z : List MarkedPolynomial). length z) r.2 ∙ length-set ms i r.0

pub turned-length : (ls : List MarkedPolynomial) (flags : List Bool) (i : ℕ) (ms : List MarkedPolynomial) → AreTailsInTurn ls flags i ms → length ms ≡ length ls
turned-length ls flags i ms AreTailsInTurn.none = refl
turned-length ls flags i ns (AreTailsInTurn.more j ms ks t l x) = next-length ms ns flags j x ∙ turned-length ls flags j ms t

next_weight : (w : List ℕ) (ms ns : List MarkedPolynomial) (flags : List Bool) (i : ℕ) → i < length ms → IsNextInTurn ms flags i ns → AreMarked (lighter w) ms →
    AreMarked (lighter w) ns
next_weight w ms ns flags i l (inl s) m = subst (AreMarked (lighter w)) (sym s.0) m
next_weight w ms ns flags i l (inr r) m = subst (AreMarked (lighter w)) (sym r.2) (λ d k. at d (set_cases ms i r.0 d k))
  where
    at : (d : MarkedPolynomial) → (r.0 ≡ d) ⊎ Contains ms d → IsMarked (lighter w) d
    at d (inl e) =
        let p : IsAt ms i (get_or ms i d) = at_index ms i d l in
        subst (IsMarked (lighter w)) e (reduced_marked w ms (get_or ms i d) r.0 m (member_contained ms i (get_or ms i d) p) (r.1.at (get_or ms i d) p))
    at d (inr k) = m d k

-- they are marked by some weight
pub turned_weight : (ls : List MarkedPolynomial) (flags : List Bool) (i : ℕ) (ms : List MarkedPolynomial) → AreTailsInTurn ls flags i ms → HasSomeWeight ls →
    HasSomeWeight ms
turned_weight ls flags i ms AreTailsInTurn.none w = w
turned_weight ls flags i ns (AreTailsInTurn.more j ms ks t l x) w = let v = turned_weight ls flags j ms t w in (v.0, next_weight v.0 ms ns flags j l x v.1)

next_variables : (n : ℕ) (ms ns : List MarkedPolynomial) (flags : List Bool) (i : ℕ) → i < length ms → IsNextInTurn ms flags i ns → HaveVariables n ms →
    HaveVariables n ns
next_variables n ms ns flags i l (inl s) v = subst (HaveVariables n) (sym s.0) v
next_variables n ms ns flags i l (inr r) v = subst (HaveVariables n) (sym r.2) (each_contained (λ (b : MarkedPolynomial). HasVariables n b.poly) (set ms i r.0)
    (λ d k. at d (set_cases ms i r.0 d k)))
  where
    at : (d : MarkedPolynomial) → (r.0 ≡ d) ⊎ Contains ms d → HasVariables n d.poly
    at d (inl e) =
        let p : IsAt ms i (get_or ms i d) = at_index ms i d l in
        subst (λ (z : MarkedPolynomial). HasVariables n z.poly) e
        ((r.1.at (get_or ms i d) p).kept.at n (member_variables n ms (get_or ms i d) v (member_contained ms i (get_or ms i d) p))).variables
    at d (inr k) = member_variables n ms d v k

-- and have the variables
pub turned_variables : (n : ℕ) (ls : List MarkedPolynomial) (flags : List Bool) (i : ℕ) (ms : List MarkedPolynomial) → AreTailsInTurn ls flags i ms →
    HaveVariables n ls → HaveVariables n ms
turned_variables n ls flags i ms AreTailsInTurn.none v = v
turned_variables n ls flags i ns (AreTailsInTurn.more j ms ks t l x) v = next_variables n ms ns flags j l x (turned_variables n ls flags j ms t v)

-- ---- each tail is reduced

-- the marks stay, the lifts from the index i on too, and those before it have reduced tails
pub record AreTurned (ls : List MarkedPolynomial) (i : ℕ) (ms : List MarkedPolynomial) : Type 0 where
  pub each : length ms ≡ length ls
  pub heads : (j : ℕ) (b c : MarkedPolynomial) → IsAt ls j b → IsAt ms j c → c.head ≡ b.head
  pub rest : (j : ℕ) (b c : MarkedPolynomial) → i ≤ j → IsAt ls j b → IsAt ms j c → c ≡ b
  pub done : (j : ℕ) (b c : MarkedPolynomial) → j < i → IsAt ls j b → IsAt ms j c → HasReducedTail ls c × IsKeptForm b c

turn_next : (bs ls : List MarkedPolynomial) (flags : List Bool) (i : ℕ) (ms ns : List MarkedPolynomial) → HasReducedTails bs → AreCopies bs ls flags →
    i < length ms → IsNextInTurn ms flags i ns → AreTurned ls i ms → AreTurned ls (i + 1) ns
turn_next bs ls flags i ms ns r k l (inl s) h = subst (AreTurned ls (i + 1)) (sym s.0) (record {
  each = h.each;
  heads = h.heads;
  rest = λ j b c m p q. h.rest j b c (omega (arith, m)) p q;
  done = λ j b c m p q. at j b c (cases_lt j i) m p q;
})
  where
    at : (j : ℕ) (b c : MarkedPolynomial) → (j < i) ⊎ (i ≤ j) → j < i + 1 → IsAt ls j b → IsAt ms j c → HasReducedTail ls c × IsKeptForm b c
    at j b c (inl d) m p q = h.done j b c d p q
    at j b c (inr d) m p q =
        let e : j ≡ i = omega (arith, d, m) in
        let pi : IsAt ls i b = subst (λ (z : ℕ). IsAt ls z b) e p in
        let f : c ≡ b = h.rest j b c d p q in
        let qi : IsAt ms i b = subst (IsAt ms i) f (subst (λ (z : ℕ). IsAt ms z c) e q) in
        let u : HasUndividedTail ls flags (get_or flags i false) b = Each-weaker (IsPassed ms flags (get_or flags i false) b.head)
        (IsPassed ls flags (get_or flags i false) b.head) (λ t v. along t v) b.poly (s.1.tail b qi) in
        (subst (HasReducedTail ls) (sym f) (stay_reduced bs ls flags i b r k u pi), subst (IsKeptForm b) (sym f) (s.1.kept b qi))
      where
        along : (t : Term) → IsPassed ms flags (get_or flags i false) b.head t → IsPassed ls flags (get_or flags i false) b.head t
        along t (inl x) = inl x
        along t (inr x) = inr (undivided_along ms ls flags (get_or flags i false) t.mono h.each h.heads x)
turn_next bs ls flags i ms ns r k l (inr x) h = subst (AreTurned ls (i + 1)) (sym x.2) (record {
  each = length-set ms i x.0 ∙ h.each;
  heads = λ j b c p q. heads j b c (cases_eq j i) p q;
  rest = λ j b c m p q. h.rest j b c (omega (arith, m)) p (put_other ms i j x.0 c (λ e. absurd (omega (arith, m, e))) q);
  done = λ j b c m p q. done j b c (cases_eq j i) m p q;
})
  where
    -- the lift at the index, and what it becomes
    old : (b : MarkedPolynomial) → IsReducedLift ms (get_or ms i b) x.0
    old b = x.1.at (get_or ms i b) (at_index ms i b l)

    heads : (j : ℕ) (b c : MarkedPolynomial) → (j ≡ i) ⊎ (j ≡ i → ⊥) → IsAt ls j b → IsAt (set ms i x.0) j c → c.head ≡ b.head
    heads j b c (inl e) p q =
        ap (λ (z : MarkedPolynomial). z.head) (sym (put_same ms i j x.0 c l e q)) ∙ (old b).head ∙ h.heads i b (get_or ms i b)
        (subst (λ (z : ℕ). IsAt ls z b) e p) (at_index ms i b l)
    heads j b c (inr n) p q = h.heads j b c p (put_other ms i j x.0 c n q)

    done : (j : ℕ) (b c : MarkedPolynomial) → (j ≡ i) ⊎ (j ≡ i → ⊥) → j < i + 1 → IsAt ls j b → IsAt (set ms i x.0) j c → HasReducedTail ls c × IsKeptForm b c
    done j b c (inr n) m p q = h.done j b c (omega (arith, m, n)) p (put_other ms i j x.0 c n q)
    done j b c (inl e) m p q =
        let pi : IsAt ls i b = subst (λ (z : ℕ). IsAt ls z b) e p in
        let f : x.0 ≡ c = put_same ms i j x.0 c l e q in
        let g : get_or ms i b ≡ b = h.rest i b (get_or ms i b) (omega arith) pi (at_index ms i b l) in (
          subst (HasReducedTail ls) f (λ y t d. (old b).irreducible y t (divisible_along ls ms h.each h.heads y d)),
          subst (λ (z : MarkedPolynomial). IsKeptForm z c) g (subst (IsKeptForm (get_or ms i b)) f (old b).kept),
        )

turned : (bs ls : List MarkedPolynomial) (flags : List Bool) (i : ℕ) (ms : List MarkedPolynomial) → HasReducedTails bs → AreCopies bs ls flags →
    AreTailsInTurn ls flags i ms → AreTurned ls i ms
turned bs ls flags i ms r k AreTailsInTurn.none = record {
  each = refl;
  heads = λ j b c p q. ap (λ (z : MarkedPolynomial). z.head) (members_equal ls j c b q p);
  rest = λ j b c m p q. members_equal ls j c b q p;
  done = λ j b c m p q. absurd (omega (arith, m));
}
turned bs ls flags i ns r k (AreTailsInTurn.more j ms ks t l x) = turn_next bs ls flags j ms ns r k l x (turned bs ls flags j ms r k t)

pub by_index : (bs cs : List MarkedPolynomial) → ((j : ℕ) (c : MarkedPolynomial) → IsAt cs j c → IsReducedTail bs c c) → AreReducedTails bs cs cs
by_index bs [] h = tt
by_index bs (c ∷ cs) h = (
  h zero c (record { within = omega arith; is = refl }),
  by_index bs cs (λ j d p. h (suc j) d (record { within = omega (arith, p.within); is = p.is })),
)

-- in the end each tail is reduced by all
pub turned_tails : (bs ls : List MarkedPolynomial) (flags : List Bool) (ms : List MarkedPolynomial) → HasReducedTails bs → AreCopies bs ls flags →
    AreTailsInTurn ls flags (length ls) ms → AreReducedTails ms ms ms
turned_tails bs ls flags ms r k t = by_index ms ms (λ j c p. record {
  tail = IsTail.member c (member_contained ms j c p);
  head = same-refl c.head;
  irreducible = λ x m d. reduced j c p x m d;
})
  where
    u : AreTurned ls (length ls) ms
    u = turned bs ls flags (length ls) ms r k t

    reduced : (j : ℕ) (c : MarkedPolynomial) → IsAt ms j c → HasReducedTail ms c
    reduced j c p x m d =
        let l : j < length ls = omega (arith, p.within, u.each) in
        (u.done j (get_or ls j c) c l (at_index ls j c l) p).0 x m (divisible_along ms ls (sym u.each) (λ i b e q w. sym (u.heads i e b w q)) x d)

-- and each member is kept as a program keeps it
pub turned_canonical : (n : ℕ) (bs ls : List MarkedPolynomial) (flags : List Bool) (ms : List MarkedPolynomial) → HasReducedTails bs → AreCopies bs ls flags →
    AreTailsInTurn ls flags (length ls) ms → HaveVariables n ls → (c : MarkedPolynomial) → Contains ms c → IsCanonical n c
turned_canonical n bs ls flags ms r k t v c m =
    let u : AreTurned ls (length ls) ms = turned bs ls flags (length ls) ms r k t in
    let l : m.0 < length ls = omega (arith, m.1, u.each) in
    let a : IsAt ls m.0 (get_or ls m.0 c) = at_index ls m.0 c l in
    (u.done m.0 (get_or ls m.0 c) c l a (record { within = m.1; is = m.2 })).1.at n
    (member_variables n ls (get_or ls m.0 c) v (member_contained ls m.0 (get_or ls m.0 c) a))
