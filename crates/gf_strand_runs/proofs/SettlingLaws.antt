-- The tails of the needed strands of a run, reduced in place one after another: the needed ones are the reduced basis then.
-- To cite: tail_kept, tail_reduced, strands_put, AreStrandsTo, strands-start, strands-left, strands-settled, strands-size, flags_read, settles_to.
use Rattle.std.proofs.Common.{◌≡◌, ◌⊎◌, ℕ, zero, suc, ◌+◌, ◌<◌, ◌≤◌, Bool, true, false, if◌then◌else◌, List, [], ◌∷◌, ◌++◌, length, drop, remove, get_or, set}
use Rattle.std.proofs.Common.{Contains, IfSome, None, Option, ℤ, pos, ◌<ℤ◌, arith, refl, sym, ap, ◌∙◌, subst, inl, inr}
use Rattle.std.proofs.lemmas.Bool.{cases_lt, cases_eq}
use Rattle.std.proofs.lemmas.List.{drop_more, get_or_default, set-get_or, length-set, map-set, append_assoc, append-nil}
use Rattle.gf_frac.specs.Fraction.{Fraction, ◌+ℚ◌, ◌*ℚ◌, neg_ℚ, zero_ℚ, one_ℚ}
use Rattle.gf_frac.proofs.FractionLaws.{+ℚ_comm, zero-+ℚ, +ℚ-neg_ℚ, one-*ℚ, +ℚ-zero, zero_or_not}
use Rattle.gf_exponents_theory.specs.Exponents.{Exponents, same, plus, Divides}
use Rattle.gf_exponents_theory.specs.Orders.{lighter, IsStrict}
use Rattle.gf_exponents_theory.specs.SixOrders.{MonomialOrder, below_of}
use Rattle.gf_exponents_theory.proofs.ExponentsLaws.{same-refl, same_flip, same_trans, same_of}
use Rattle.gf_exponents_theory.proofs.OrderLaws.{lighter-strict}
use Rattle.gf_exponents_theory.proofs.SixOrdersLaws.{order-is}
use Rattle.gf_poly.specs.Polynomial.{Terms, coefficient, times}
use Rattle.gf_poly.specs.Marking.{MarkedPolynomial, Each}
use Rattle.gf_poly.proofs.PolynomialLaws.{coefficient-same}
use Rattle.gf_ideal_theory.specs.Membership.{HasMonomial, AreInVariables, IsMember}
use Rattle.gf_ideal_theory.specs.Marks.{IsMarked, AreMarked}
use Rattle.gf_ideal_theory.specs.Reduction.{IsIrreducible, Reached, HasOneMonomial}
use Rattle.gf_ideal_theory.specs.Settled.{IsAt}
use Rattle.gf_ideal_theory.specs.Bases.{AreMembers, IsBasis, HasReducedTails, IsReducedBasisFor}
use Rattle.gf_ideal_theory.proofs.Identities.{one_not_zero, crossed_over}
use Rattle.gf_ideal_theory.proofs.InterreductionLaws.{basis-kept, basis-tails, reduced_by_order}
use Rattle.gf_ideal_theory.proofs.ListLaws.{Each-weaker, contained_each}
use Rattle.gf_ideal_theory.proofs.StepLaws.{IsWithin, closed-below, taken, member-reached, reached-here}
use Rattle.gf_division.specs.MonicForms.{IsMadeMonic}
use Rattle.gf_division.specs.Remainders.{IsRemainder}
use Rattle.gf_division.specs.Autoreduction.{IsNeededAt, IsNeededForm, AreNeededForms}
use Rattle.gf_division.proofs.NeededLaws.{Forming, forming-none, forming-more, forming-skipped, forming_end, needed_divisible}
use Rattle.gf_division.proofs.ReducerLaws.{members_equal, member_contained}
use Rattle.gf_buchberger.proofs.BasesOfRuns.{IsEnd}
use Rattle.gf_buchberger.proofs.TaskLaws.{ring_variables}
use Rattle.gf_strands.specs.declared.strands.Point.{Point}
use Rattle.gf_strands.specs.declared.strands.Strand.{Strand}
use Rattle.gf_strands.specs.Along.{HasNonzero}
use Rattle.gf_strands.specs.Members.{HasReducedTail, AreMonic}
use Rattle.gf_strands.specs.Strands.{moved, AreSpots, AreFalling, strand_terms, strand_member, strand_members, IsStrandAlong, HasOrigin, IsStrandOf}
use Rattle.gf_strands.specs.Strands.{AreStrandsOf, IsGround}
use Rattle.gf_strands.specs.Strands.{facet_order}
use Rattle.gf_strands.specs.Monomials.{monomial_member, with_monomials, AreLaterUndivided, chosen}
use Rattle.gf_strands.specs.Forms.{NoStrandFrom}
use Rattle.gf_strands.proofs.StrandLaws.{strand_listed, strand_marked}
use Rattle.gf_strands.proofs.MonomialLaws.{monomial_single, monomial_one, behind_at, AtFront, AtBehind, joined_cases}
use Rattle.gf_strands.proofs.StrandMarks.{strand_at, at_strand, each_strand}
use Rattle.gf_strands.proofs.IndexLaws.{set_cases, at_index, put_same, put_other, divisible_along}
use Rattle.gf_strand_runs.specs.Settling.{IsNeededWhere, AreNeededFlags, IsTailSettled, SettlesTo}
use Rattle.gf_strand_runs.proofs.NeededStrands.{strands_length}
use Rattle.gf_strand_runs.proofs.TurnLaws.{turn_end}

-- ---- steps in the tail of a monic member

-- the monomial x with the coefficient 1, and other terms behind it; marked at x
abbrev headed : Exponents → Terms → MarkedPolynomial
headed x f = record { poly = record { coef = one_ℚ; mono = x } ∷ f; head = x }

-- a monomial of it is the mark or one of the others
headed_cases : (x : Exponents) (f : Terms) (y : Exponents) → HasMonomial (headed x f).poly y → (same y x ≡ true) ⊎ HasMonomial f y
headed_cases x f y h = at (same y x) refl
  where
    at : (b : Bool) → same y x ≡ b → (same y x ≡ true) ⊎ HasMonomial f y
    at true e = inl e
    at false e = inr (λ z. h (ap (λ (b : Bool). (if b then one_ℚ else zero_ℚ) +ℚ coefficient f y) e ∙ zero-+ℚ (coefficient f y) ∙ z))

-- the coefficient elsewhere is that of the others
headed_beside : (x : Exponents) (f : Terms) (y : Exponents) → same y x ≡ false → coefficient (headed x f).poly y ≡ coefficient f y
headed_beside x f y e = ap (λ (b : Bool). (if b then one_ℚ else zero_ℚ) +ℚ coefficient f y) e ∙ zero-+ℚ (coefficient f y)

-- and at the mark it is 1 and that of the others
headed_here : (x : Exponents) (f : Terms) → coefficient (headed x f).poly x ≡ one_ℚ +ℚ coefficient f x
headed_here x f = ap (λ (b : Bool). (if b then one_ℚ else zero_ℚ) +ℚ coefficient f x) (same-refl x)

-- where it is marked, the others are below the mark
headed_below : (below : Exponents → Exponents → Type 0) (x : Exponents) (f : Terms) → IsMarked below (headed x f) → IsWithin (λ y. below y x) f
headed_below below x f m y n = at (same y x) refl
  where
    none : coefficient f x ≡ zero_ℚ
    none = crossed_over (coefficient f x) one_ℚ zero_ℚ one_ℚ (+ℚ_comm (coefficient f x) one_ℚ ∙ sym (headed_here x f) ∙ m.monic ∙ sym (zero-+ℚ one_ℚ)) ∙
        zero-+ℚ (one_ℚ +ℚ neg_ℚ one_ℚ) ∙ +ℚ-neg_ℚ one_ℚ

    elsewhere : same y x ≡ false → (same y x ≡ true) ⊎ below y x → below y x
    elsewhere e (inl s) = absurd (cc)
    elsewhere e (inr l) = l

    at : (b : Bool) → same y x ≡ b → below y x
    at true e = absurd (n (coefficient-same f y x e ∙ none))
    at false e = elsewhere e (m.tail y (λ z. n (sym (headed_beside x f y e) ∙ z)))

-- and where the others are, it is marked
marked_below : (below : Exponents → Exponents → Type 0) (x : Exponents) (f : Terms) → IsStrict below → IsWithin (λ y. below y x) f → IsMarked below (headed x f)
marked_below below x f o w = record {
  monic = headed_here x f ∙ ap (λ (z : Fraction). one_ℚ +ℚ z) none ∙ +ℚ-zero one_ℚ;
  tail = λ y n. at y (headed_cases x f y n);
}
  where
    none : coefficient f x ≡ zero_ℚ
    none = elim (zero_or_not (coefficient f x)) [ inl z ↦ z | inr n ↦ absurd (o.irreflexive x x (same-refl x) (w x n)) ]

    at : (y : Exponents) → (same y x ≡ true) ⊎ HasMonomial f y → (same y x ≡ true) ⊎ below y x
    at y (inl s) = inl s
    at y (inr n) = inr (w y n)

-- steps lead from it to it with what they lead to from the others
headed_reached : (by : MarkedPolynomial → Type 0) (below : Exponents → Exponents → Type 0) (x : Exponents) (f g : Terms) → IsStrict below →
    ((b : MarkedPolynomial) → by b → IsMarked below b) → IsWithin (λ y. below y x) f → Reached by f g → Reached by (headed x f).poly (headed x g).poly
headed_reached by below x f g o m w (Reached.here k e) =
    Reached.here (headed x g).poly (λ y. ap (λ (z : Fraction). (if same y x then one_ℚ else zero_ℚ) +ℚ z) (e y))
headed_reached by below x f g o m w (Reached.next k l r s) = Reached.next (headed x k).poly (headed x g).poly (headed_reached by below x f k o m w r) (record {
  at = s.at;
  member = s.member;
  rest = s.rest;
  contained = s.contained;
  there = λ z. s.there (sym plain ∙ z);
  divides = s.divides;
  equal = λ y. ap (λ (z : Fraction). (if same y x then one_ℚ else zero_ℚ) +ℚ z) (s.equal y ∙
      ap (λ (c : Fraction). coefficient (k ++ times (neg_ℚ c) s.rest s.member.poly) y) (sym plain));
})
  where
    under : below s.at x
    under = (taken by (λ y. below y x) f k (closed-below by below x o m) w r).within s.at s.there

    off : (b : Bool) → same s.at x ≡ b → same s.at x ≡ false
    off true e = absurd (o.irreflexive s.at x e under)
    off false e = e

    plain : coefficient (headed x k).poly s.at ≡ coefficient k s.at
    plain = headed_beside x k s.at (off (same s.at x) refl)

-- ---- a list led on

-- weights that mark the old members mark the new ones, and these are in each ideal where the old ones are
pub record IsLedTo (bs cs : List MarkedPolynomial) : Type 0 where
  pub marked : (w : List ℕ) → AreMarked (lighter w) bs → AreMarked (lighter w) cs
  pub members : (n : ℕ) (fs : List Terms) (w : List ℕ) → AreInVariables n fs → AreMarked (lighter w) bs → AreMembers n fs bs → AreMembers n fs cs

led_same : (bs : List MarkedPolynomial) → IsLedTo bs bs
led_same bs = record { marked = λ w m. m; members = λ n fs w v m b. b }

led_trans : (bs cs ds : List MarkedPolynomial) → IsLedTo bs cs → IsLedTo cs ds → IsLedTo bs ds
led_trans bs cs ds h k = record {
  marked = λ w m. k.marked w (h.marked w m);
  members = λ n fs w v m b. k.members n fs w v (h.marked w m) (h.members n fs w v m b);
}

-- one tail put in that steps lead to
led_put : (bs : List MarkedPolynomial) (p : ℕ) (x : Exponents) (f g : Terms) → IsAt bs p (headed x f) → Reached (Contains bs) f g →
    IsLedTo bs (set bs p (headed x g))
led_put bs p x f g a r = record {
  marked = λ w m c k. marked w m c (set_cases bs p (headed x g) c k);
  members = λ n fs w v m b c k. members n fs w v m b c (set_cases bs p (headed x g) c k);
}
  where
    below : (w : List ℕ) → AreMarked (lighter w) bs → IsWithin (λ y. lighter w y x) f
    below w m = headed_below (lighter w) x f (m (headed x f) (member_contained bs p (headed x f) a))

    marked : (w : List ℕ) → AreMarked (lighter w) bs → (c : MarkedPolynomial) → (headed x g ≡ c) ⊎ Contains bs c → IsMarked (lighter w) c
    marked w m c (inl e) = subst (IsMarked (lighter w)) e (marked_below (lighter w) x g (lighter-strict w)
        (taken (Contains bs) (λ y. lighter w y x) f g (closed-below (Contains bs) (lighter w) x (lighter-strict w) m) (below w m) r).within)
    marked w m c (inr k) = m c k

    members : (n : ℕ) (fs : List Terms) (w : List ℕ) → AreInVariables n fs → AreMarked (lighter w) bs → AreMembers n fs bs → (c : MarkedPolynomial) →
        (headed x g ≡ c) ⊎ Contains bs c → IsMember n fs c.poly
    members n fs w v m b c (inl e) = subst (λ (z : MarkedPolynomial). IsMember n fs z.poly) e
        (member-reached n fs (Contains bs) (headed x f).poly (headed x g).poly v b (headed_reached (Contains bs) (lighter w) x f g (lighter-strict w) m
        (below w m) r) (b (headed x f) (member_contained bs p (headed x f) a)))
    members n fs w v m b c (inr k) = b c k

-- ---- tails before an index

-- the marks stay, and the members from the index p on; of those before it whose flag is set no mark divides an unmarked monomial
pub record AreTailsTo (flags : List Bool) (bs : List MarkedPolynomial) (p : ℕ) (cs : List MarkedPolynomial) : Type 0 where
  pub size : length cs ≡ length bs
  pub heads : (i : ℕ) (b c : MarkedPolynomial) → IsAt bs i b → IsAt cs i c → c.head ≡ b.head
  pub rest : (i : ℕ) (b c : MarkedPolynomial) → p ≤ i → IsAt bs i b → IsAt cs i c → c ≡ b
  pub led : IsLedTo bs cs
  pub tails : (i : ℕ) (c : MarkedPolynomial) → i < p → get_or flags i false ≡ true → IsAt cs i c → HasReducedTail bs c

tails_none : (flags : List Bool) (bs : List MarkedPolynomial) (p : ℕ) → ((i : ℕ) (c : MarkedPolynomial) → i < p → IsAt bs i c → HasOneMonomial c) →
    AreTailsTo flags bs p bs
tails_none flags bs p h = record {
  size = refl;
  heads = λ i b c x y. ap (λ (z : MarkedPolynomial). z.head) (members_equal bs i c b y x);
  rest = λ i b c l x y. members_equal bs i c b y x;
  led = led_same bs;
  tails = λ i c l f a x n d. h i c l a x n;
}

-- the member at the index isn't needed
tails_skipped : (flags : List Bool) (bs : List MarkedPolynomial) (p : ℕ) (cs : List MarkedPolynomial) → get_or flags p false ≡ false →
    AreTailsTo flags bs p cs → AreTailsTo flags bs (p + 1) cs
tails_skipped flags bs p cs e h = record {
  size = h.size;
  heads = h.heads;
  rest = λ i b c l x y. h.rest i b c (omega (arith, l)) x y;
  led = h.led;
  tails = λ i c l f a. at i c (cases_lt i p) l f a;
}
  where
    at : (i : ℕ) (c : MarkedPolynomial) → (i < p) ⊎ (p ≤ i) → i < p + 1 → get_or flags i false ≡ true → IsAt cs i c → HasReducedTail bs c
    at i c (inl k) l f a = h.tails i c k f a
    at i c (inr k) l f a =
        let r : i ≡ p = omega (arith, k, l) in
        let g : get_or flags p false ≡ true = subst (λ (z : ℕ). get_or flags z false ≡ true) r f in
        absurd (cc)

-- one is put in
tails_put : (flags : List Bool) (bs : List MarkedPolynomial) (p : ℕ) (cs ds : List MarkedPolynomial) (b c : MarkedPolynomial) → IsAt cs p b → ds ≡ set cs p c →
    c.head ≡ b.head → IsLedTo cs ds → HasReducedTail bs c → AreTailsTo flags bs p cs → AreTailsTo flags bs (p + 1) ds
tails_put flags bs p cs ds b c a e m k t h = subst (AreTailsTo flags bs (p + 1)) (sym e) (record {
  size = length-set cs p c ∙ h.size;
  heads = λ i d g x y. heads i d g (cases_eq i p) x y;
  rest = λ i d g l x y. h.rest i d g (omega (arith, l)) x (put_other cs p i c g (λ r. absurd (omega (arith, l, r))) y);
  led = led_trans bs cs (set cs p c) h.led (subst (IsLedTo cs) e k);
  tails = λ i g l f y. tails i g (cases_eq i p) l f y;
})
  where
    heads : (i : ℕ) (d g : MarkedPolynomial) → (i ≡ p) ⊎ (i ≡ p → ⊥) → IsAt bs i d → IsAt (set cs p c) i g → g.head ≡ d.head
    heads i d g (inl r) x y = ap (λ (z : MarkedPolynomial). z.head) (sym (put_same cs p i c g a.within r y)) ∙ m ∙ h.heads p d b
        (subst (λ (z : ℕ). IsAt bs z d) r x) a
    heads i d g (inr n) x y = h.heads i d g x (put_other cs p i c g n y)

    tails : (i : ℕ) (g : MarkedPolynomial) → (i ≡ p) ⊎ (i ≡ p → ⊥) → i < p + 1 → get_or flags i false ≡ true → IsAt (set cs p c) i g → HasReducedTail bs g
    tails i g (inl r) l f y = subst (HasReducedTail bs) (put_same cs p i c g a.within r y) t
    tails i g (inr n) l f y = h.tails i g (omega (arith, l, n)) f (put_other cs p i c g n y)

-- ---- the tail of a strand

members_set : (a : List ℤ) (xs : List Exponents) (ls : List Strand) (j : ℕ) (l : Strand) →
    with_monomials xs (strand_members a (set ls j l)) ≡ set (with_monomials xs (strand_members a ls)) (length xs + j) (strand_member a l)
members_set a [] ls j l =
    let e : j ≡ length {A = Exponents} [] + j = omega arith in
    map-set (strand_member a) ls j l ∙ ap (λ (k : ℕ). set (strand_members a ls) k (strand_member a l)) e
members_set a (x ∷ xs) ls j l =
    let e : suc (length xs + j) ≡ length (x ∷ xs) + j = omega arith in
    ap (λ (z : List MarkedPolynomial). monomial_member x ∷ z) (members_set a xs ls j l) ∙ ap (λ (k : ℕ). set (with_monomials (x ∷ xs) (strand_members a ls)) k
    (strand_member a l)) e

-- it stays, and no mark of a strand from its index on divides a term of it
tail_stays : (a : List ℤ) (xs : List Exponents) (old ls : List Strand) (j : ℕ) (l : Strand) (flags : List Bool) →
    AreLaterUndivided (with_monomials xs (strand_members a old)) → j < length ls → get_or ls j l ≡ l →
    Each (λ (p : Point). NoStrandFrom ls j (moved a l.mark p.k))
    l.rest.items → AreTailsTo flags (with_monomials xs (strand_members a old)) (length xs + j) (with_monomials xs (strand_members a ls)) →
    HasReducedTail (with_monomials xs (strand_members a old)) (strand_member a l)
tail_stays a xs old ls j l flags u w q n h x m d = at (headed_cases l.mark (strand_terms a l.mark l.rest.items) x m) (cases_lt d.contained.0 (length xs + j))
  where
    bs : List MarkedPolynomial
    bs = with_monomials xs (strand_members a old)

    cs : List MarkedPolynomial
    cs = with_monomials xs (strand_members a ls)

    here : IsAt cs (length xs + j) (strand_member a l)
    here = behind_at xs (strand_members a ls) j (strand_member a l) (at_strand a ls j l w q)

    before : IsAt bs (length xs + j) (strand_member a l)
    before =
        let b = get_or bs (length xs + j) (strand_member a l) in
        let p : IsAt bs (length xs + j) b = at_index bs (length xs + j) (strand_member a l) (omega (arith, here.within, h.size)) in
        subst (IsAt bs (length xs + j)) (sym (h.rest (length xs + j) b (strand_member a l) (omega arith) p here)) p

    divisor : IsAt bs d.contained.0 d.member
    divisor = record { within = d.contained.1; is = d.contained.2 }

    now : IsAt cs d.contained.0 (get_or cs d.contained.0 d.member)
    now = at_index cs d.contained.0 d.member (omega (arith, d.contained.1, h.size))

    mark : (get_or cs d.contained.0 d.member).head ≡ d.member.head
    mark = h.heads d.contained.0 d.member (get_or cs d.contained.0 d.member) divisor now

    late : (p : Point) → Contains l.rest.items p → same x (moved a l.mark p.k) ≡ true → length xs + j ≤ d.contained.0 →
        AtFront xs d.contained.0 (get_or cs d.contained.0 d.member) ⊎ AtBehind xs (strand_members a ls) d.contained.0 (get_or cs d.contained.0 d.member) → ⊥
    late p c s g (inl f) = absurd (omega (arith, f.within, g))
    late p c s g (inr b) =
        let m = strand_at a ls b.index (get_or cs d.contained.0 d.member) b.at in
        let e : d.member.head ≡ m.strand.mark = sym mark ∙ ap (λ (z : MarkedPolynomial). z.head) m.member in
        let t : same (moved a l.mark p.k) (plus d.rest d.member.head) ≡ true =
        same_trans (moved a l.mark p.k) x (plus d.rest d.member.head) (same_flip x (moved a l.mark p.k) s) d.divides in
        (contained_each (λ (p : Point). NoStrandFrom ls j (moved a l.mark p.k)) l.rest.items n p c).none b.index m.strand (omega (arith, g, b.is)) m.within m.at
        (record { rest = d.rest; product = subst (λ (z : Exponents). same (moved a l.mark p.k) (plus d.rest z) ≡ true) e t })

    at : (same x l.mark ≡ true) ⊎ HasMonomial (strand_terms a l.mark l.rest.items) x → (d.contained.0 < length xs + j) ⊎ (length xs + j ≤ d.contained.0) →
        same x l.mark ≡ true
    at (inl s) k = s
    at (inr t) (inl k) =
        absurd (u.none d.contained.0 (length xs + j) d.member (strand_member a l) k divisor before x m (record { rest = d.rest; product = d.divides }))
    at (inr t) (inr k) =
        let p = strand_listed a l.mark x l.rest.items t in
        absurd (late p.0 p.1 p.2 k (joined_cases xs (strand_members a ls) d.contained.0 (get_or cs d.contained.0 d.member) now))

-- it is reduced
tail_divided : (bs cs : List MarkedPolynomial) (x : Exponents) (f : Terms) → length cs ≡ length bs →
    ((i : ℕ) (b c : MarkedPolynomial) → IsAt bs i b → IsAt cs i c → c.head ≡ b.head) → IsIrreducible (Contains cs) f → HasReducedTail bs (headed x f)
tail_divided bs cs x f e h n y m d = elim (headed_cases x f y m) [
  | inl s ↦ s
  | inr t ↦ absurd (n y t (divisible_along bs cs e h y d))
]

-- as the code stands: what the strand at the index j is, by a list and points that are the same
pub tail_kept : (a : List ℤ) (xs : List Exponents) (ls ms : List Strand) (j : ℕ) (l : Strand) (ps : List Point) → l ≡ get_or ls j l → ms ≡ ls →
    ps ≡ l.rest.items → Each (λ (p : Point). NoStrandFrom ms j (moved a l.mark p.k)) ps → IsTailSettled a xs j ls ls
tail_kept a xs ls ms j l ps q e f n = record {
  before = l;
  at = sym q;
  after = l;
  strands = sym (ap (set ls j) q ∙ set-get_or ls j l);
  mark = refl;
  reached = reached-here (Contains (with_monomials xs (strand_members a ls))) (strand_terms a l.mark l.rest.items);
  tail = inl (
    refl,
    subst (λ (z : List Strand). Each (λ (p : Point). NoStrandFrom z j (moved a l.mark p.k)) l.rest.items) e
        (subst (Each (λ (p : Point). NoStrandFrom ms j (moved a l.mark p.k))) f n),
  );
}

pub tail_reduced : (a : List ℤ) (xs : List Exponents) (ls ms : List Strand) (j : ℕ) (l m : Strand) (ps : List Point) → j < length ls → l ≡ get_or ls j l →
    ms ≡ ls → ps ≡ l.rest.items → m.mark ≡ l.mark → IsRemainder (with_monomials xs (strand_members a ms)) (strand_terms a l.mark ps)
    (strand_terms a l.mark m.rest.items) → IsTailSettled a xs j ls (set ls j m)
tail_reduced a xs ls ms j l m ps w q e f k r = record {
  before = l;
  at = sym q;
  after = m;
  strands = refl;
  mark = k;
  reached = here.reached;
  tail = inr here.irreducible;
}
  where
    here : IsRemainder (with_monomials xs (strand_members a ls)) (strand_terms a l.mark l.rest.items) (strand_terms a l.mark m.rest.items)
    here = subst (λ (z : List Strand). IsRemainder (with_monomials xs (strand_members a z)) (strand_terms a l.mark l.rest.items)
        (strand_terms a l.mark m.rest.items)) e
        (subst (λ (z : List Point). IsRemainder (with_monomials xs (strand_members a ms)) (strand_terms a l.mark z) (strand_terms a l.mark m.rest.items)) f r)

each_set : {A : Type 0} (P : A → Type 0) (xs : List A) (j : ℕ) (x : A) → Each P xs → P x → Each P (set xs j x)
each_set P [] j x h k = tt
each_set P (y ∷ xs) zero x h k = (k, h.1)
each_set P (y ∷ xs) (suc j) x h k = (h.0, each_set P xs j x h.1 k)

-- the strand put in is a strand again
pub strands_put : (a : List ℤ) (by : List MarkedPolynomial) (ls : List Strand) (j : ℕ) (l m : Strand) (ps : List Point) → AreStrandsOf a by ls → j < length ls →
    l ≡ get_or ls j l → ps ≡ l.rest.items → m.mark ≡ l.mark → m.origin ≡ None → AreSpots a l.mark m.rest.items →
    (Each (λ (p : Point). pos 0 <ℤ p.k) ps → Each (λ (p : Point). pos 0 <ℤ p.k) m.rest.items) → AreFalling m.rest.items → AreStrandsOf a by (set ls j m)
strands_put a by ls j l m ps h w q f k o on further falling =
    each_set (IsStrandOf a by) ls j m h (made, subst (λ (z : Option ℕ). IfSome z (HasOrigin a by m)) (sym o) tt)
  where
    old : IsStrandAlong a l
    old = (each_strand (IsStrandOf a by) ls j l h w (sym q)).0

    made : IsStrandAlong a m
    made = record {
      width = ap (λ (z : Exponents). length z) k ∙ old.width;
      on = subst (λ (z : Exponents). AreSpots a z m.rest.items) (sym k) on;
      further = further (subst (Each (λ (p : Point). pos 0 <ℤ p.k)) (sym f) old.further);
      falling = falling;
    }

-- ---- one strand after another, as the code stands

-- so it is with the strands before the index j
pub record AreStrandsTo (a : List ℤ) (xs : List Exponents) (by : List MarkedPolynomial) (flags : List Bool) (old : List Strand) (j : ℕ) (ls : List Strand) :
    Type 0 where
  pub tails : AreTailsTo flags (with_monomials xs (strand_members a old)) (length xs + j) (with_monomials xs (strand_members a ls))
  pub size : length ls ≡ length old
  pub strands : AreStrandsOf a by ls

pub strands-start : (a : List ℤ) (xs : List Exponents) (by : List MarkedPolynomial) (flags : List Bool) (ls : List Strand) → AreStrandsOf a by ls →
    AreStrandsTo a xs by flags ls 0 ls
strands-start a xs by flags ls k = record {
  tails = tails_none flags (with_monomials xs (strand_members a ls)) (length xs + 0) (λ i c l h. single i c l (joined_cases xs (strand_members a ls) i c h));
  size = refl;
  strands = k;
}
  where
    single : (i : ℕ) (c : MarkedPolynomial) → i < length xs + 0 → AtFront xs i c ⊎ AtBehind xs (strand_members a ls) i c → HasOneMonomial c
    single i c l (inl f) = subst HasOneMonomial (sym f.member) (monomial_single f.mono)
    single i c l (inr g) = absurd (omega (arith, l, g.is))

pub flags_read : (a : List ℤ) (xs : List Exponents) (flags : List Bool) (old ms : List Strand) → ms ≡ old →
    AreNeededFlags (with_monomials xs (strand_members a ms)) flags → AreNeededFlags (with_monomials xs (strand_members a old)) flags
flags_read a xs flags old ms e f = subst (λ (z : List Strand). AreNeededFlags (with_monomials xs (strand_members a z)) flags) e f

-- there is a flag for each strand
flags_within : (a : List ℤ) (xs : List Exponents) (flags : List Bool) (old : List Strand) (j : ℕ) →
    AreNeededFlags (with_monomials xs (strand_members a old)) flags → j < length old → length xs + j < length flags
flags_within a xs flags old j f l = omega (arith, f.size, strands_length a xs old, l)

-- the strand at the index isn't needed
pub strands-left : (a : List ℤ) (xs : List Exponents) (by : List MarkedPolynomial) (flags : List Bool) (old : List Strand) (j : ℕ) (ls : List Strand)
    (f : Bool) → AreNeededFlags (with_monomials xs (strand_members a old)) flags → j < length old → f ≡ get_or flags (length xs + j) f → f ≡ false →
    AreStrandsTo a xs by flags old j ls → AreStrandsTo a xs by flags old (j + 1) ls
strands-left a xs by flags old j ls f n w q e h = record {
  tails = subst (λ (k : ℕ). AreTailsTo flags (with_monomials xs (strand_members a old)) k (with_monomials xs (strand_members a ls))) (omega arith)
      (tails_skipped flags (with_monomials xs (strand_members a old)) (length xs + j) (with_monomials xs (strand_members a ls))
      (sym (get_or_default flags (length xs + j) f false (flags_within a xs flags old j n w)) ∙ sym q ∙ e) h.tails);
  size = h.size;
  strands = h.strands;
}

-- its tail is settled
pub strands-settled : (a : List ℤ) (xs : List Exponents) (by : List MarkedPolynomial) (flags : List Bool) (old : List Strand) (j : ℕ) (ls ns : List Strand) →
    AreLaterUndivided (with_monomials xs (strand_members a old)) → j < length old → IsTailSettled a xs j ls ns → AreStrandsOf a by ns →
    AreStrandsTo a xs by flags old j ls → AreStrandsTo a xs by flags old (j + 1) ns
strands-settled a xs by flags old j ls ns u w s o h = record {
  tails = subst (λ (k : ℕ). AreTailsTo flags bs k (with_monomials xs (strand_members a ns))) (omega arith)
      (tails_put flags bs (length xs + j) cs (with_monomials xs (strand_members a ns)) (strand_member a s.before) (strand_member a s.after) here put s.mark led
      (reduced s.tail) h.tails);
  size = ap (λ (z : List Strand). length z) s.strands ∙ length-set ls j s.after ∙ h.size;
  strands = o;
}
  where
    bs : List MarkedPolynomial
    bs = with_monomials xs (strand_members a old)

    cs : List MarkedPolynomial
    cs = with_monomials xs (strand_members a ls)

    within : j < length ls
    within = omega (arith, w, h.size)

    here : IsAt cs (length xs + j) (strand_member a s.before)
    here = behind_at xs (strand_members a ls) j (strand_member a s.before) (at_strand a ls j s.before within s.at)

    put : with_monomials xs (strand_members a ns) ≡ set cs (length xs + j) (strand_member a s.after)
    put = ap (λ (z : List Strand). with_monomials xs (strand_members a z)) s.strands ∙ members_set a xs ls j s.after

    -- the mark is the old one
    form : strand_member a s.after ≡ headed s.before.mark (strand_terms a s.before.mark s.after.rest.items)
    form = ap (λ (x : Exponents). headed x (strand_terms a x s.after.rest.items)) s.mark

    led : IsLedTo cs (with_monomials xs (strand_members a ns))
    led = subst (IsLedTo cs) (sym (put ∙ ap (set cs (length xs + j)) form))
        (led_put cs (length xs + j) s.before.mark (strand_terms a s.before.mark s.before.rest.items) (strand_terms a s.before.mark s.after.rest.items)
        here s.reached)

    reduced : ((s.after ≡ s.before) × Each (λ (p : Point). NoStrandFrom ls j (moved a s.before.mark p.k)) s.before.rest.items) ⊎ IsIrreducible (Contains cs)
        (strand_terms a s.before.mark s.after.rest.items) → HasReducedTail bs (strand_member a s.after)
    reduced (inl k) = subst (λ (z : Strand). HasReducedTail bs (strand_member a z)) (sym k.0)
        (tail_stays a xs old ls j s.before flags u within s.at k.1 h.tails)
    reduced (inr k) = subst (HasReducedTail bs) (sym form) (tail_divided bs cs s.before.mark (strand_terms a s.before.mark s.after.rest.items)
        h.tails.size h.tails.heads k)

pub strands-size : (a : List ℤ) (xs : List Exponents) (by : List MarkedPolynomial) (flags : List Bool) (old : List Strand) (j : ℕ) (ls : List Strand) →
    AreNeededFlags (with_monomials xs (strand_members a old)) flags → AreStrandsTo a xs by flags old j ls →
    length flags ≡ length (with_monomials xs (strand_members a ls))
strands-size a xs by flags old j ls f h = f.size ∙ sym h.tails.size

-- ---- the needed ones

-- which members are needed is told by their marks
needed_along : (bs cs : List MarkedPolynomial) (i : ℕ) → length cs ≡ length bs → ((i : ℕ) (b c : MarkedPolynomial) → IsAt bs i b → IsAt cs i c →
    c.head ≡ b.head) → IsNeededAt bs i → IsNeededAt cs i
needed_along bs cs i e h n = (get_or cs i n.0, record { at = here; least = λ k c p d. least k c p d })
  where
    here : IsAt cs i (get_or cs i n.0)
    here = at_index cs i n.0 (omega (arith, n.1.at.within, e))

    mark : (get_or cs i n.0).head ≡ n.0.head
    mark = h i n.0 (get_or cs i n.0) n.1.at here

    least : (k : ℕ) (c : MarkedPolynomial) → IsAt cs k c → Divides c.head (get_or cs i n.0).head → (same c.head (get_or cs i n.0).head ≡ true) × (i ≤ k)
    least k c p d =
        let b = get_or bs k c in
        let q : IsAt bs k b = at_index bs k c (omega (arith, p.within, e)) in
        let m : c.head ≡ b.head = h k b c q p in
        let r = n.1.least k b q (subst (λ (z : Exponents). Divides z n.0.head) m (subst (Divides c.head) mark d)) in
        (subst (λ (z : Exponents). same c.head z ≡ true) (sym mark) (subst (λ (z : Exponents). same z n.0.head ≡ true) (sym m) r.0), r.1)

flags_along : (bs cs : List MarkedPolynomial) (flags : List Bool) → length cs ≡ length bs → ((i : ℕ) (b c : MarkedPolynomial) → IsAt bs i b → IsAt cs i c →
    c.head ≡ b.head) → AreNeededFlags bs flags → AreNeededFlags cs flags
flags_along bs cs flags e h f = record { size = f.size ∙ sym e; at = λ i l. at i (get_or flags i false) (f.at i (omega (arith, l, e))) }
  where
    at : (i : ℕ) (g : Bool) → IsNeededWhere bs i g → IsNeededWhere cs i g
    at i true n = needed_along bs cs i e h n
    at i false n = λ k. n (needed_along cs bs i (sym e) (λ j c b p q. sym (h j b c q p)) k)

-- a monic member is its own monic form
own_form : (b : MarkedPolynomial) → coefficient b.poly b.head ≡ one_ℚ → IsMadeMonic b b
own_form b e = record {
  form = record { there = λ z. one_not_zero (sym e ∙ z); equation = λ x. ap (λ (c : Fraction). c *ℚ coefficient b.poly x) e ∙ one-*ℚ (coefficient b.poly x) };
  head = refl;
  kept = λ _. refl;
}

-- those whose flags are set
chosen_on : (bs : List MarkedPolynomial) (flags : List Bool) (left ks : List MarkedPolynomial) (rest : List Bool) (i : ℕ) → AreMonic bs →
    AreNeededFlags bs flags → left ≡ drop i bs → rest ≡ drop i flags → length left + i ≡ length bs → Forming bs i ks →
    AreNeededForms bs (ks ++ chosen rest left)
chosen_on bs flags [] ks rest i m p el e s h = subst (AreNeededForms bs) (sym (none rest)) (forming_end bs i ks (omega (arith, s)) h)
  where
    none : (rest : List Bool) → ks ++ chosen rest [] ≡ ks
    none [] = append-nil ks
    none (f ∷ rest) = append-nil ks
chosen_on bs flags (b ∷ next) ks [] i m p el e s h =
    let r : length {A = Bool} [] ≡ length (get_or flags i false ∷ drop (i + 1) flags) =
    ap (λ (z : List Bool). length z) (e ∙ drop_more flags i false (omega (arith, p.size, s))) in
    absurd (omega (arith, r))
chosen_on bs flags (b ∷ next) ks (f ∷ rest) i m p el e s h =
    at f (subst (IsNeededWhere bs i) first (p.at i within)) (λ new k. chosen_on bs flags next new rest (i + 1) m p after_members after (omega (arith, s)) k)
  where
    within : i < length bs
    within = omega (arith, s)

    split : f ∷ rest ≡ get_or flags i false ∷ drop (i + 1) flags
    split = e ∙ drop_more flags i false (omega (arith, p.size, s))

    first : get_or flags i false ≡ f
    first = sym (ap (λ (z : List Bool). get_or z 0 false) split)

    after : rest ≡ drop (i + 1) flags
    after = ap (λ (z : List Bool). remove z 0) split

    split_members : b ∷ next ≡ get_or bs i b ∷ drop (i + 1) bs
    split_members = el ∙ drop_more bs i b within

    after_members : next ≡ drop (i + 1) bs
    after_members = ap (λ (z : List MarkedPolynomial). remove z 0) split_members

    here : IsAt bs i b
    here = record { within = within; is = sym (ap (λ (z : List MarkedPolynomial). get_or z 0 b) split_members) }

    at : (g : Bool) → IsNeededWhere bs i g → ((new : List MarkedPolynomial) → Forming bs (i + 1) new → AreNeededForms bs (new ++ chosen rest next)) →
        AreNeededForms bs (ks ++ chosen (g ∷ rest) (b ∷ next))
    at true n more = subst (AreNeededForms bs) (append_assoc ks (b ∷ []) (chosen rest next))
        (more (ks ++ b ∷ []) (forming-more bs i ks (ks ++ b ∷ []) b b here n (own_form b (m b (member_contained bs i b here))) (record { at = λ n v. v })
        refl h))
    at false n more = more ks (forming-skipped bs i ks n h)

chosen_forms : (bs : List MarkedPolynomial) (flags : List Bool) → AreMonic bs → AreNeededFlags bs flags → AreNeededForms bs (chosen flags bs)
chosen_forms bs flags m p = chosen_on bs flags bs [] flags 0 m p refl refl (omega arith) (forming-none bs)

-- ---- the basis

-- each of them stands at an index whose flag is set
record IsChosenAt (flags : List Bool) (cs : List MarkedPolynomial) (k : MarkedPolynomial) : Type 0 where
  index : ℕ
  at : IsAt cs index k
  flag : get_or flags index false ≡ true

chosen_index : (flags : List Bool) (cs ks : List MarkedPolynomial) (k : MarkedPolynomial) → AreMonic cs → AreNeededFlags cs flags → AreNeededForms cs ks →
    Contains ks k → IsChosenAt flags cs k
chosen_index flags cs ks k m f h c = record {
  index = n.index;
  at = subst (IsAt cs n.index) (sym own) n.needed.at;
  flag = flag (get_or flags n.index false) refl (f.at n.index n.needed.at.within);
}
  where
    n : IsNeededForm cs k
    n = h.inside k c

    own : k ≡ n.member
    own = n.form.kept (m n.member (member_contained cs n.index n.member n.needed.at))

    flag : (b : Bool) → get_or flags n.index false ≡ b → IsNeededWhere cs n.index b → get_or flags n.index false ≡ true
    flag true e p = e
    flag false e p = absurd (p (n.member, n.needed))

-- the needed members, their tails reduced
tails_basis : (order : MonomialOrder) (n : ℕ) (fs : List Terms) (flags : List Bool) (bs cs : List MarkedPolynomial) → IsEnd order n fs bs →
    AreNeededFlags bs flags → AreTailsTo flags bs (length bs) cs → AreMarked (below_of order) cs → IsReducedBasisFor n fs (below_of order) (chosen flags cs)
tails_basis order n fs flags bs cs h f t m =
    reduced_by_order n fs (chosen flags cs) (below_of order) v (basis-kept n fs cs (chosen flags cs) basis inside (needed_divisible cs (chosen flags cs) forms))
    (order-is order).strict (λ k c. m k (inside k c)) reduced forms.apart
  where
    v : AreInVariables n fs
    v = ring_variables n fs h.task.ring

    told : AreNeededFlags cs flags
    told = flags_along bs cs flags t.size t.heads f

    monic : AreMonic cs
    monic b c = (m b c).monic

    forms : AreNeededForms cs (chosen flags cs)
    forms = chosen_forms cs flags monic told

    index : (k : MarkedPolynomial) → Contains (chosen flags cs) k → IsChosenAt flags cs k
    index k c = chosen_index flags cs (chosen flags cs) k monic told forms c

    inside : (k : MarkedPolynomial) → Contains (chosen flags cs) k → Contains cs k
    inside k c = let p = index k c in member_contained cs p.index k p.at

    heads : (d : MarkedPolynomial) → Contains bs d → (c : MarkedPolynomial) × Contains cs c × (same d.head c.head ≡ true)
    heads d k =
        let p : IsAt bs k.0 d = record { within = k.1; is = k.2 } in
        let c = get_or cs k.0 d in
        let q : IsAt cs k.0 c = at_index cs k.0 d (omega (arith, k.1, t.size)) in
        (c, member_contained cs k.0 c q, same_of d.head c.head (sym (t.heads k.0 d c p q)))

    basis : IsBasis n fs cs
    basis = basis-tails n fs bs cs h.basis (t.led.members n fs h.basis.marked.0 v h.basis.marked.2 h.basis.members)
        (t.led.marked h.basis.marked.0 h.basis.marked.2) heads

    reduced : HasReducedTails (chosen flags cs)
    reduced k c x w d =
        let p = index k c in
        t.tails p.index k (omega (arith, p.at.within, t.size)) p.flag p.at x w
        (divisible_along cs bs (sym t.size) (λ i b e q r. sym (t.heads i e b r q)) x (record {
          member = d.member;
          contained = inside d.member d.contained;
          rest = d.rest;
          divides = d.divides;
        }))

-- the members are marked by the order
strands_marked : (a : List ℤ) (xs : List Exponents) (ls : List Strand) → HasNonzero a → Each (IsStrandAlong a) ls →
    AreMarked (below_of (facet_order a)) (with_monomials xs (strand_members a ls))
strands_marked a xs ls n h b c = at (joined_cases xs (strand_members a ls) c.0 b (record { within = c.1; is = c.2 }))
  where
    at : AtFront xs c.0 b ⊎ AtBehind xs (strand_members a ls) c.0 b → IsMarked (below_of (facet_order a)) b
    at (inl f) =
        subst (IsMarked (below_of (facet_order a))) (sym f.member) (record { monic = monomial_one f.mono; tail = λ x m. inl (monomial_single f.mono x m) })
    at (inr g) =
        let l = strand_at a ls g.index b g.at in
        subst (IsMarked (below_of (facet_order a))) (sym l.member)
        (strand_marked a l.strand n (each_strand (IsStrandAlong a) ls g.index l.strand h l.within l.at))

pub settles_to : (a : List ℤ) (xs : List Exponents) (by : List MarkedPolynomial) (flags : List Bool) (old : List Strand) (j : ℕ) (ls : List Strand) →
    IsGround a xs → AreNeededFlags (with_monomials xs (strand_members a old)) flags → j ≡ length old → AreStrandsTo a xs by flags old j ls →
    SettlesTo (facet_order a) (length a) (with_monomials xs (strand_members a old)) (chosen flags (with_monomials xs (strand_members a ls)))
settles_to a xs by flags old j ls g f e h = record {
  at = λ fs t i. tails_basis (facet_order a) (length a) fs flags (with_monomials xs (strand_members a old)) (with_monomials xs (strand_members a ls))
      (turn_end (facet_order a) (length a) fs (with_monomials xs (strand_members a old)) (length (with_monomials xs (strand_members a old))) refl t i) f whole
      (strands_marked a xs ls g.nonzero (Each-weaker (IsStrandOf a by) (IsStrandAlong a) (λ l k. k.0) ls h.strands));
}
  where
    whole : AreTailsTo flags (with_monomials xs (strand_members a old)) (length (with_monomials xs (strand_members a old))) (with_monomials xs
        (strand_members a ls))
    whole = subst (λ (z : ℕ). AreTailsTo flags (with_monomials xs (strand_members a old)) z (with_monomials xs (strand_members a ls)))
        (ap (λ (k : ℕ). length xs + k) e ∙ sym (strands_length a xs old)) h.tails

-- ---- lists in wide numbers
