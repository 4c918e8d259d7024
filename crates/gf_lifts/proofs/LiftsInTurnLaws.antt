-- Lifts with reduced tails, each worked out at once, are lifts: what is taken away is lighter than the mark.
-- To cite: AreLiftingInTurn, in_turn_none, in_turn_more, in_turn_weight, ever_in_turn, placed_variables, rest_if, rests_more, rest_there, less_by_at,
-- less_by_kept, lifts_in_more, reduced_as.
use Rattle.std.proofs.Common.{◌≡◌, ◌⊎◌, ℕ, zero, suc, ◌+◌, ◌<◌, true, List, [], ◌∷◌, ◌++◌, length, take, get_or, Contains, ℤ, pos, ◌<ℤ◌, ◌≤ℤ◌, arith, refl, sym}
use Rattle.std.proofs.Common.{ap, ◌∙◌, subst, inl, inr, Result, Ok, Err, IfOk, ◌≤◌}
use Rattle.std.proofs.lemmas.Int.{ints}
use Rattle.std.proofs.lemmas.List.{take_more}
use Rattle.gf_int_theory.proofs.ListLaws.{Contains-last}
use Rattle.gf_frac.specs.Fraction.{Fraction, ◌+ℚ◌, neg_ℚ, zero_ℚ, one_ℚ}
use Rattle.gf_frac.proofs.FractionLaws.{zero_or_not, +ℚ_assoc, +ℚ_comm, +ℚ-neg_ℚ, zero-+ℚ}
use Rattle.gf_exponents_theory.specs.Exponents.{Exponents, same, whole_weight}
use Rattle.gf_exponents_theory.proofs.ExponentsLaws.{same-refl}
use Rattle.gf_exponents_theory.proofs.WholeWeightLaws.{whole_weight-same}
use Rattle.gf_exponents_theory.specs.Orders.{lighter}
use Rattle.gf_vec.specs.Vector.{dot}
use Rattle.gf_poly.specs.Polynomial.{Terms, coefficient, SamePolynomial, times, HasVariables, KeepsVariables, KeepsBothVariables}
use Rattle.gf_poly.specs.Sums.{IsDifference}
use Rattle.gf_poly.specs.Marking.{MarkedPolynomial, HaveVariables, head_of, MarkedPolynomials}
use Rattle.gf_poly.proofs.PolynomialLaws.{coefficient-++}
use Rattle.gf_ideal_theory.specs.Membership.{HasMonomial, IsInVariables, AreInVariables, IsMember}
use Rattle.gf_ideal_theory.specs.Marks.{IsMarked, AreMarked, HasPositiveWeight, Piece, value}
use Rattle.gf_ideal_theory.specs.Reduction.{Reached}
use Rattle.gf_ideal_theory.proofs.Identities.{one_not_zero}
use Rattle.gf_ideal_theory.proofs.ListLaws.{Each-weaker, Each-++, each_contained}
use Rattle.gf_ideal_theory.proofs.MembershipLaws.{member-equal, variables-++, variables-times, variables_of_member, spans_of_member, member_of_spans}
use Rattle.gf_ideal_theory.proofs.SpanLaws.{Spans-equal, Spans-++}
use Rattle.gf_ideal_theory.proofs.PieceLaws.{spans_value}
use Rattle.gf_ideal_theory.proofs.StepLaws.{IsClosed, IsPieceIn, AreTaken, taken, closed_downward, variables-reached}
use Rattle.gf_ideal_theory.proofs.UniquenessLaws.{apart_same}
use Rattle.gf_ideal_theory.specs.Bases.{AreArranged}
use Rattle.gf_division.specs.Remainders.{IsRemainder}
use Rattle.gf_division.proofs.ReducerLaws.{member_variables}
use Rattle.gf_division.specs.Autoreduction.{IsAutoreduced, IsReducedOf}
use Rattle.gf_facets_theory.specs.Beyond.{IsFurther, IsBeyond}
use Rattle.gf_facets_theory.proofs.VectorLaws.{three, IsNonzero}
use Rattle.gf_facets_theory.proofs.WholeLaws.{beyond-strict, further-weight}
use Rattle.gf_facets_theory.proofs.RegionLaws.{beyond-positive}
use Rattle.gf_facets_theory.specs.Rows.{negated}
use Rattle.gf_initial_theory.proofs.DifferenceLaws.{difference, other_summand}
use Rattle.gf_initial_theory.specs.Lifts.{IsLifted}
use Rattle.gf_initial_theory.proofs.MatchingLaws.{matched-map, matched-from, matched-push}
use Rattle.gf_initial_theory.proofs.InitialLaws.{remainder_below}
use Rattle.gf_initial_theory.proofs.LiftLaws.{further-flat, lift-taken, part_ring}
use Rattle.gf_initial_theory.proofs.LiftedLaws.{lifted_marked, lifted_of_lift}
use Rattle.gf_initial_theory.proofs.SideLaws.{side-weak}
use Rattle.gf_initial_theory.proofs.FlipLaws.{ArePartFacts}
use Rattle.gf_strands.specs.Along.{IsBasisOfParts}
use Rattle.gf_lifts.specs.Crossings.{IsCrossing}
use Rattle.gf_lifts.specs.LiftsInTurn.{IsRest, AreRests, IsLessBy, AreLiftsInTurn, IsLiftIn, AreLiftsIn, IsReducedForm}
use Rattle.gf_lifts.proofs.CrossingMath.{parts_of, AreEverLifted}
use Rattle.gf_lifts.proofs.LiftSteps.{lift_variables}

-- ---- a member of the ideal that differs from a lift where terms are lighter

-- it is a lift too
lifted_beside : (n : ℕ) (fs : List Terms) (v a : List ℤ) (h : MarkedPolynomial) (x : Exponents) (f g : Terms) → dot a v ≡ pos 0 → IsMarked (IsFurther a) h →
    IsMember n fs g → ((y : Exponents) → whole_weight v h.head ≤ℤ whole_weight v y → coefficient g y ≡ coefficient f y) →
    IsLifted n fs v h (record { poly = f; head = x }) → IsLifted n fs v h (record { poly = g; head = x })
lifted_beside n fs v a h x f g o mark member kept t = record {
  member = member;
  head = t.head;
  form = record {
    heaviest = λ y k.
        let d : whole_weight v h.head ≤ℤ whole_weight v y = k h.head there in
        t.form.heaviest y (λ z m. omega (arith, ints, top z m, d)) ∙ sym (kept y d);
    lighter = λ y z m l. t.form.lighter y h.head before (omega (arith, ints, l, top_after z m));
  };
}
  where
    marked : IsMarked (IsBeyond v a) (record { poly = f; head = x })
    marked = lifted_marked n fs v a h (record { poly = f; head = x }) mark t

    -- no monomial is heavier than the mark
    top : (y : Exponents) → HasMonomial f y → whole_weight v y ≤ℤ whole_weight v h.head
    top y m = at (marked.tail y m)
      where
        at : (same y x ≡ true) ⊎ IsBeyond v a y x → whole_weight v y ≤ℤ whole_weight v h.head
        at (inl e) = omega (arith, ints, whole_weight-same v y x e, ap (whole_weight v) t.head)
        at (inr (inl l)) = omega (arith, ints, l, ap (whole_weight v) t.head)
        at (inr (inr k)) = omega (arith, ints, further-weight v a y x o k, ap (whole_weight v) t.head)

    before : HasMonomial f h.head
    before z = one_not_zero (sym marked.monic ∙ ap (coefficient f) t.head ∙ z)

    there : HasMonomial g h.head
    there z = before (sym (kept h.head (omega (arith, ints))) ∙ z)

    top_after : (y : Exponents) → HasMonomial g y → whole_weight v y ≤ℤ whole_weight v h.head
    top_after y m = at (three (whole_weight v y) (whole_weight v h.head))
      where
        at : (whole_weight v y <ℤ whole_weight v h.head) ⊎ ((whole_weight v y ≡ whole_weight v h.head) ⊎ (whole_weight v h.head <ℤ whole_weight v y)) →
            whole_weight v y ≤ℤ whole_weight v h.head
        at (inl d) = omega (arith, ints, d)
        at (inr (inl e)) = omega (arith, ints, e)
        at (inr (inr d)) = top y (λ z. m (kept y (omega (arith, ints, d)) ∙ z))

-- ---- what steps by lifts leave of what is lighter

-- lighter than a monomial
abbrev IsUnder : List ℤ → Exponents → Exponents → Type 0
IsUnder v x y = whole_weight v y <ℤ whole_weight v x

-- which steps by lifts don't leave
closed-under : (v a : List ℤ) (ks : List MarkedPolynomial) (x : Exponents) → dot a v ≡ pos 0 → IsNonzero a → AreMarked (IsBeyond v a) ks →
    IsClosed (Contains ks) (IsUnder v x)
closed-under v a ks x o nz marks = closed_downward (Contains ks) (IsBeyond v a) (IsUnder v x) (beyond-strict v a o nz) marks
    (λ y z e d. omega (arith, ints, whole_weight-same v y z e, d))
    (λ y z l d. down y z l d)
  where
    down : (y z : Exponents) → IsBeyond v a y z → IsUnder v x z → IsUnder v x y
    down y z (inl l) d = omega (arith, ints, l, d)
    down y z (inr k) d = omega (arith, ints, further-weight v a y z o k, d)

-- one is less the other, and less what was taken from that
less_both : (h r s v : Fraction) → r ≡ s +ℚ v → (h +ℚ neg_ℚ r) +ℚ v ≡ h +ℚ neg_ℚ s
less_both h r s v e =
    ap (λ z. (h +ℚ neg_ℚ r) +ℚ z) (sym (other_summand s v r e))
    ∙ +ℚ_assoc h (neg_ℚ r) (r +ℚ neg_ℚ s)
    ∙ ap (λ z. h +ℚ z) (sym (+ℚ_assoc (neg_ℚ r) r (neg_ℚ s)) ∙ ap (λ z. z +ℚ neg_ℚ s) (+ℚ_comm (neg_ℚ r) r ∙ +ℚ-neg_ℚ r) ∙ zero-+ℚ (neg_ℚ s))

-- h less r is in the ideal; so is h less what steps by members lead to from r
less_member : (n : ℕ) (fs : List Terms) (ks : List MarkedPolynomial) (B : Exponents → Type 0) (h r s : Terms) → AreInVariables n fs →
    ((b : MarkedPolynomial) → Contains ks b → IsMember n fs b.poly) → IsInVariables n h → IsInVariables n r → Reached (Contains ks) r s →
    AreTaken (Contains ks) B r s → IsMember n fs (h ++ times (neg_ℚ one_ℚ) [] r) → IsMember n fs (h ++ times (neg_ℚ one_ℚ) [] s)
less_member n fs ks B h r s vars members ring left reached w m =
    member_of_spans n fs (h ++ times (neg_ℚ one_ℚ) [] s) vars
    (variables-++ n h (times (neg_ℚ one_ℚ) [] s) ring (variables-times n (neg_ℚ one_ℚ) [] s (λ i l. refl)
    (variables-reached n (Contains ks) r s (λ b k. variables_of_member n fs b.poly vars (members b k)) left reached)))
    (Spans-equal fs ((h ++ times (neg_ℚ one_ℚ) [] r) ++ value w.pieces) (h ++ times (neg_ℚ one_ℚ) [] s) equal
    (Spans-++ fs (h ++ times (neg_ℚ one_ℚ) [] r) (value w.pieces) (spans_of_member n fs (h ++ times (neg_ℚ one_ℚ) [] r) m)
    (spans_value fs (Contains ks) (λ b k. spans_of_member n fs b.poly (members b k)) w.pieces
    (Each-weaker (IsPieceIn (Contains ks) B) (λ (p : Piece). Contains ks p.of) (λ p q. q.member) w.pieces w.inside))))
  where
    equal : SamePolynomial ((h ++ times (neg_ℚ one_ℚ) [] r) ++ value w.pieces) (h ++ times (neg_ℚ one_ℚ) [] s)
    equal x =
        coefficient-++ (h ++ times (neg_ℚ one_ℚ) [] r) (value w.pieces) x
        ∙ ap (λ z. z +ℚ coefficient (value w.pieces) x) (difference h r x)
        ∙ less_both (coefficient h x) (coefficient r x) (coefficient s x) (coefficient (value w.pieces) x) (w.equal x)
        ∙ sym (difference h s x)

-- ---- one lift

lifted_left : (n : ℕ) (fs : List Terms) (bs ps hs ks : List MarkedPolynomial) (v a : List ℤ) (h l : MarkedPolynomial) (r : Terms) → AreInVariables n fs →
    dot a v ≡ pos 0 → ArePartFacts n fs bs ps hs a v → Contains hs h → AreMarked (IsBeyond v a) ks →
    ((b : MarkedPolynomial) → Contains ks b → IsMember n fs b.poly) → IsRest bs h r → IsLessBy ks r h l → IsLifted n fs v h l
lifted_left n fs bs ps hs ks v a h l r vars o q c marks members i t =
    subst (λ (z : Exponents). IsLifted n fs v h (record { poly = l.poly; head = z })) (sym t.head)
    (lifted_beside n fs v a h h.head whole.poly l.poly o (q.further h c)
    (member-equal n fs (h.poly ++ times (neg_ℚ one_ℚ) [] t.left) l.poly (λ x. sym (t.poly x))
    (less_member n fs ks (IsUnder v h.head) h.poly r t.left vars members ring
    (variables-reached n (Contains bs) h.poly r (λ b k. variables_of_member n fs b.poly vars (q.side.reduced.basis.members b k)) ring i.remainder.reached)
    t.reached w first.member))
    kept first)
  where
    ring : IsInVariables n h.poly
    ring = part_ring n fs bs ps v h.poly vars q.side.reduced.basis q.levels (q.basis.members h c)

    -- the lift before its tail is reduced
    whole : MarkedPolynomial
    whole = record { poly = h.poly ++ times (neg_ℚ one_ℚ) [] r; head = h.head }

    first : IsLifted n fs v h whole
    first = lifted_of_lift n fs bs ps v a h whole vars q.side.reduced.basis (side-weak n fs v (negated a) bs q.side) q.levels o (q.basis.members h c)
        (q.further h c)
        (record { remainder = r; reached = i.remainder.reached; irreducible = i.remainder.irreducible; head = refl; poly = λ x. refl })

    under : (x : Exponents) → HasMonomial r x → IsUnder v h.head x
    under = remainder_below n fs bs ps v (whole_weight v h.head) h.poly r
        (lift-taken n fs bs v a h r vars q.side.reduced.basis (side-weak n fs v (negated a) bs q.side) o ring (q.further h c) i.remainder.reached)
        vars q.side.reduced.basis (side-weak n fs v (negated a) bs q.side) q.levels (q.basis.members h c) (further-flat v a h o (q.further h c))
        i.remainder.irreducible

    w : AreTaken (Contains ks) (IsUnder v h.head) r t.left
    w = taken (Contains ks) (IsUnder v h.head) r t.left (closed-under v a ks h.head o q.nonzero marks) under t.reached

    -- what isn't lighter than the mark is that of h
    from_h : (s : Terms) → ((x : Exponents) → HasMonomial s x → IsUnder v h.head x) → (y : Exponents) → whole_weight v h.head ≤ℤ whole_weight v y →
        coefficient (h.poly ++ times (neg_ℚ one_ℚ) [] s) y ≡ coefficient h.poly y +ℚ neg_ℚ zero_ℚ
    from_h s low y d = difference h.poly s y ∙ ap (λ z. coefficient h.poly y +ℚ neg_ℚ z) none
      where
        none : coefficient s y ≡ zero_ℚ
        none = elim (zero_or_not (coefficient s y)) [ inl z ↦ z | inr k ↦ absurd (omega (arith, ints, low y k, d)) ]

    kept : (y : Exponents) → whole_weight v h.head ≤ℤ whole_weight v y → coefficient l.poly y ≡ coefficient whole.poly y
    kept y d = t.poly y ∙ from_h t.left w.within y d ∙ sym (from_h r under y d)

-- ---- the list

-- each is a lift of one of hs
in_turn : (n : ℕ) (fs : List Terms) (bs ps hs : List MarkedPolynomial) (v a : List ℤ) (es : List MarkedPolynomial) → AreInVariables n fs → dot a v ≡ pos 0 →
    ArePartFacts n fs bs ps hs a v → AreLiftsInTurn bs hs es → (d : MarkedPolynomial) → Contains es d → (h : MarkedPolynomial) × Contains hs h ×
    IsLifted n fs v h d
in_turn n fs bs ps hs v a es vars o q AreLiftsInTurn.none d k = absurd (omega (arith, k.1))
in_turn n fs bs ps hs v a es vars o q (AreLiftsInTurn.more ds h l r t c i w) d k = at (in_turn n fs bs ps hs v a ds vars o q t) (Contains-last ds l d k)
  where
    at : ((b : MarkedPolynomial) → Contains ds b → (g : MarkedPolynomial) × Contains hs g × IsLifted n fs v g b) → Contains ds d ⊎ (d ≡ l) →
        (g : MarkedPolynomial) × Contains hs g × IsLifted n fs v g d
    at before (inl j) = before d j
    at before (inr e) = (
      h,
      c,
      subst (IsLifted n fs v h) (sym e) (lifted_left n fs bs ps hs ds v a h l r vars o q c
          (λ b j. let g = before b j in lifted_marked n fs v a g.0 b (q.further g.0 g.1) g.2)
          (λ b j. (before b j).2.member) i w),
    )

-- a positive weight marks them
pub in_turn_weight : (n : ℕ) (bs : List MarkedPolynomial) (a : List ℤ) (hs ds : List MarkedPolynomial) → IsCrossing n bs a → IsBasisOfParts n bs a hs →
    AreLiftsInTurn bs hs ds → HasPositiveWeight n ds
in_turn_weight n bs a hs ds c p t =
    beyond-positive n c.region c.flippable.point a ds c.flippable.region q.width q.nonzero c.flippable.inside.zero
    (λ b j. let g = in_turn n c.generators bs p.along.parts hs c.flippable.point a ds c.variables c.flippable.inside.zero q t b j in
    lifted_marked n c.generators c.flippable.point a g.0 b (q.further g.0 g.1) g.2)
  where
    q : ArePartFacts n c.generators bs p.along.parts hs a c.flippable.point
    q = parts_of n bs a hs p c.generators c.region c.variables c.basis c.flippable

-- those with the marks of hs are the lifts of hs
pub ever_in_turn : (n : ℕ) (bs : List MarkedPolynomial) (a : List ℤ) (hs ds ls : List MarkedPolynomial) → IsBasisOfParts n bs a hs → AreLiftsInTurn bs hs ds →
    AreLiftsIn ds hs ls → AreEverLifted n bs a hs ls
ever_in_turn n bs a hs ds ls p t m = record {
  at = λ gs k vars b f. matched-map (IsLiftIn ds) (IsLifted n gs f.point) hs ls (λ h l c i.
      let g = in_turn n gs bs p.along.parts hs f.point a ds vars f.inside.zero (parts_of n bs a hs p gs k vars b f) t l i.1 in
      subst (λ (z : MarkedPolynomial). IsLifted n gs f.point z l) (the_one g.0 h g.1 c (sym g.2.head ∙ i.0)) g.2) m;
}
  where
    the_one : (g h : MarkedPolynomial) → Contains hs g → Contains hs h → g.head ≡ h.head → g ≡ h
    the_one g h j k e = apart_same hs g h p.reduced.heads j k [] (subst (λ (z : Exponents). same h.head z ≡ true) (sym e) (same-refl h.head))

-- ---- as the code has it

pub record AreLiftingInTurn (n : ℕ) (bs hs ds : List MarkedPolynomial) : Type 0 where
  pub lifts : AreLiftsInTurn bs hs ds
  pub variables : HaveVariables n ds

pub in_turn_none : (n : ℕ) (bs hs ds : List MarkedPolynomial) → ds ≡ [] → AreLiftingInTurn n bs hs ds
in_turn_none n bs hs ds e = subst (AreLiftingInTurn n bs hs) (sym e) (record { lifts = AreLiftsInTurn.none; variables = tt })

pub in_turn_more : (n : ℕ) (bs hs : List MarkedPolynomial) (h l : MarkedPolynomial) (r : Terms) (old new : List MarkedPolynomial) → Contains hs h →
    IsRest bs h r → IsLessBy old r h l → HasVariables n l.poly → new ≡ old ++ l ∷ [] → AreLiftingInTurn n bs hs old → AreLiftingInTurn n bs hs new
in_turn_more n bs hs h l r old new c i t v e s = subst (AreLiftingInTurn n bs hs) (sym e) (record {
  lifts = AreLiftsInTurn.more old h l r s.lifts c i t;
  variables = Each-++ (λ (b : MarkedPolynomial). HasVariables n b.poly) old (l ∷ []) s.variables (v, tt);
})

pub placed_variables : (n : ℕ) (ds hs ls : List MarkedPolynomial) → HaveVariables n ds → AreLiftsIn ds hs ls → HaveVariables n ls
placed_variables n ds hs ls v m = each_contained (λ (b : MarkedPolynomial). HasVariables n b.poly) ls
    (λ b k. member_variables n ds b v (matched-from (IsLiftIn ds) hs ls m b k).2.1)

-- a remainder, as it is worked out
rest_at : (bs items : List MarkedPolynomial) (h : MarkedPolynomial) (g r : Terms) → items ≡ bs → g ≡ h.poly → IsRemainder items g r → KeepsVariables g r →
    IsRest bs h r
rest_at bs items h g r e d i k = record {
  remainder = subst (λ (z : Terms). IsRemainder bs z r) d (subst (λ (z : List MarkedPolynomial). IsRemainder z g r) e i);
  kept = subst (λ (z : Terms). KeepsVariables z r) d k;
}

pub rest_if : {E : Type 0} (bs items : List MarkedPolynomial) (h : MarkedPolynomial) (g : Terms) (x : Result Terms E) → items ≡ bs → g ≡ h.poly →
    IfOk x (IsRemainder items g) → IfOk x (KeepsVariables g) → IfOk x (IsRest bs h)
rest_if bs items h g (Ok r) e d i k = rest_at bs items h g r e d i k
rest_if bs items h g (Err y) e d i k = tt

-- one more
pub rests_more : (bs hs : List MarkedPolynomial) (i : ℕ) (h : MarkedPolynomial) (r : Terms) (old new : List Terms) → i < length hs → h ≡ get_or hs i h →
    IsRest bs h r → new ≡ old ++ r ∷ [] → AreRests bs (take i hs) old → AreRests bs (take (i + 1) hs) new
rests_more bs hs i h r old new k q t e m =
    subst (λ (z : List MarkedPolynomial). AreRests bs z new) (sym (take_more hs i h k ∙ ap (λ (z : MarkedPolynomial). take i hs ++ z ∷ []) (sym q)))
    (subst (λ (z : List Terms). AreRests bs (take i hs ++ h ∷ []) z) (sym e) (matched-push (IsRest bs) (take i hs) old h r m t))

-- that of a member at its index
pub rest_there : (bs hs : List MarkedPolynomial) (rs : List Terms) (i : ℕ) (h : MarkedPolynomial) (r : Terms) → AreRests bs hs rs → i < length hs →
    h ≡ get_or hs i h → r ≡ get_or rs i r → IsRest bs h r
rest_there bs [] rs i h r m k p q = absurd (omega (arith, k))
rest_there bs (g ∷ hs) [] i h r m k p q = elim m [ ]
rest_there bs (g ∷ hs) (s ∷ rs) zero h r m k p q = subst (λ (z : Terms). IsRest bs h z) (sym q) (subst (λ (z : MarkedPolynomial). IsRest bs z s) (sym p) m.0)
rest_there bs (g ∷ hs) (s ∷ rs) (suc i) h r m k p q = rest_there bs hs rs i h r m.1 (omega (arith, k)) p q

-- what a member less what is left is
pub less_by_at : (ds : List MarkedPolynomial) (h l : MarkedPolynomial) (r s u g p t : Terms) (x : Exponents) (i : ℕ) → IsRemainder ds r s → u ≡ s → g ≡ h.poly →
    IsDifference g u p → t ≡ p → x ≡ h.head → head_of t i ≡ x → l ≡ record { poly = p; head = head_of p i } → IsLessBy ds r h l
less_by_at ds h l r s u g p t x i w e k d q y m o = record {
  left = u;
  reached = subst (Reached (Contains ds) r) (sym e) w.reached;
  head = ap (λ (z : MarkedPolynomial). z.head) o ∙ ap (λ (z : Terms). head_of z i) (sym q) ∙ m ∙ y;
  poly = λ c. ap (λ (z : MarkedPolynomial). coefficient z.poly c) o ∙ subst (λ (z : Terms). IsDifference z u p) k d c ∙ sym (difference h.poly u c);
}

-- in its variables
pub less_by_kept : (h l : MarkedPolynomial) (r s u g p : Terms) (x : Exponents) → KeepsVariables h.poly r → KeepsVariables r s → u ≡ s → g ≡ h.poly →
    KeepsBothVariables g u p → l ≡ record { poly = p; head = x } → KeepsVariables h.poly l.poly
less_by_kept h l r s u g p x a b e k d o = record {
  at = λ n v. lift_variables n h l g u p x k d v (subst (HasVariables n) (sym e) (b.at n (a.at n v))) o;
}

-- a lift more in its place
pub lifts_in_more : (ds hs : List MarkedPolynomial) (i : ℕ) (h l : MarkedPolynomial) (old new : List MarkedPolynomial) → i < length hs → h ≡ get_or hs i h →
    IsLiftIn ds h l → new ≡ old ++ l ∷ [] → AreLiftsIn ds (take i hs) old → AreLiftsIn ds (take (i + 1) hs) new
lifts_in_more ds hs i h l old new k q t e m =
    subst (λ (z : List MarkedPolynomial). AreLiftsIn ds z new) (sym (take_more hs i h k ∙ ap (λ (z : MarkedPolynomial). take i hs ++ z ∷ []) (sym q)))
    (subst (λ (z : List MarkedPolynomial). AreLiftsIn ds (take i hs ++ h ∷ []) z) (sym e) (matched-push (IsLiftIn ds) (take i hs) old h l m t))

-- t is the list s autoreduced, as told of its parts
pub reduced_as : (n : ℕ) (bs : List MarkedPolynomial) (s t : MarkedPolynomials) → ◌≡◌ {A = MarkedPolynomials} s (record { variables = n; items = bs }) →
    IsAutoreduced s t → AreArranged s.variables t.items → HasPositiveWeight s.variables t.items → IsReducedOf s.variables s.items t.items → IsReducedForm n bs t
reduced_as n bs s t e a r p d = record {
  value = subst (λ (z : MarkedPolynomials). IsAutoreduced z t) e a;
  arranged = subst (λ (z : MarkedPolynomials). AreArranged z.variables t.items) e r;
  marked = subst (λ (z : MarkedPolynomials). HasPositiveWeight z.variables t.items) e p;
  reduced = subst (λ (z : MarkedPolynomials). IsReducedOf z.variables z.items t.items) e d;
}
