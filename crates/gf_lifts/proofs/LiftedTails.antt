-- A lift whose tail is reduced by lifts is a lift: what is taken away is lighter.
-- To cite: lifted_tail, ever_turned.
use Rattle.std.proofs.Common.{◌≡◌, ◌⊎◌, ℕ, zero, suc, Bool, true, false, Some, List, [], ◌∷◌, set, Contains, ℤ, pos, ◌<ℤ◌, ◌≤ℤ◌, arith, refl, sym, ap, ◌∙◌}
use Rattle.std.proofs.Common.{subst, inl, inr}
use Rattle.std.proofs.lemmas.Bool.{false≢true}
use Rattle.std.proofs.lemmas.Int.{ints}
use Rattle.gf_frac.specs.Fraction.{◌+ℚ◌, neg_ℚ, zero_ℚ}
use Rattle.gf_frac.proofs.FractionLaws.{zero_or_not, +ℚ-zero}
use Rattle.gf_exponents_theory.specs.Exponents.{Exponents, same, plus, whole_weight}
use Rattle.gf_exponents_theory.proofs.WholeWeightLaws.{whole_weight-same}
use Rattle.gf_poly.specs.Polynomial.{Terms, coefficient, times}
use Rattle.gf_poly.specs.Marking.{MarkedPolynomial}
use Rattle.gf_poly.proofs.PolynomialLaws.{coefficient-++}
use Rattle.gf_vec.specs.Vector.{dot}
use Rattle.gf_ideal_theory.specs.Membership.{HasMonomial, AreInVariables}
use Rattle.gf_ideal_theory.specs.Marks.{IsMarked, AreMarked}
use Rattle.gf_ideal_theory.specs.Reduction.{IsStep}
use Rattle.gf_ideal_theory.specs.Settled.{IsAt}
use Rattle.gf_ideal_theory.specs.Bases.{HasReducedTails}
use Rattle.gf_ideal_theory.proofs.Identities.{one_not_zero}
use Rattle.gf_ideal_theory.proofs.StepLaws.{IsClosed, IsWithin, closed_downward, multiple_within, member-reached, reached-one}
use Rattle.gf_division.specs.Remainders.{ReachedBeside}
use Rattle.gf_facets_theory.specs.Beyond.{IsFurther, IsBeyond}
use Rattle.gf_facets_theory.proofs.VectorLaws.{three, IsNonzero}
use Rattle.gf_facets_theory.proofs.WholeLaws.{beyond-strict, further-weight}
use Rattle.gf_initial_theory.specs.Parts.{Matching}
use Rattle.gf_initial_theory.specs.Lifts.{IsLifted, AreLifted}
use Rattle.gf_initial_theory.proofs.MatchingLaws.{matched-from}
use Rattle.gf_initial_theory.proofs.LiftedLaws.{lifted_marked, lifted_marks}
use Rattle.gf_strands.specs.Along.{IsBasisOfParts}
use Rattle.gf_lifts.specs.LiftTails.{IsReducedLift, IsNextInTurn, AreTailsInTurn}
use Rattle.gf_lifts.proofs.CrossingMath.{parts_of, AreEverLifted}

-- what one step at an unmarked monomial leads to
lifted_step : (n : ℕ) (fs : List Terms) (v a : List ℤ) (hs ks : List MarkedPolynomial) (h : MarkedPolynomial) (x : Exponents) (f g : Terms) →
    AreInVariables n fs → dot a v ≡ pos 0 → IsNonzero a → AreMarked (IsFurther a) hs → HasReducedTails hs → AreLifted n fs v hs ks → Contains hs h →
    (s : IsStep (Contains ks) f g) → same s.at x ≡ false → IsLifted n fs v h (record { poly = f; head = x }) → IsLifted n fs v h (record { poly = g; head = x })
lifted_step n fs v a hs ks h x f g vars o nz further tails lifts c s u t = record {
  member = member-reached n fs (Contains ks) f g vars (λ b k. (matched-from (IsLifted n fs v) hs ks lifts b k).2.member) (reached-one (Contains ks) f g s)
      t.member;
  head = t.head;
  form = record {
    heaviest = λ y k.
        let d : whole_weight v h.head ≤ℤ whole_weight v y = k h.head there in
        t.form.heaviest y (λ z m. omega (arith, ints, top z m, d)) ∙ sym (kept y d);
    lighter = λ y z m l. t.form.lighter y h.head before (omega (arith, ints, l, top_after z m));
  };
}
  where
    marks : AreMarked (IsBeyond v a) ks
    marks = lifted_marks n fs v a hs ks further lifts

    marked : IsMarked (IsBeyond v a) (record { poly = f; head = x })
    marked = lifted_marked n fs v a h (record { poly = f; head = x }) (further h c) t

    -- no monomial is heavier than the mark
    top : (y : Exponents) → HasMonomial f y → whole_weight v y ≤ℤ whole_weight v h.head
    top y m = at (marked.tail y m)
      where
        at : (same y x ≡ true) ⊎ IsBeyond v a y x → whole_weight v y ≤ℤ whole_weight v h.head
        at (inl e) = omega (arith, ints, whole_weight-same v y x e, ap (whole_weight v) t.head)
        at (inr (inl l)) = omega (arith, ints, l, ap (whole_weight v) t.head)
        at (inr (inr k)) = omega (arith, ints, further-weight v a y x o k, ap (whole_weight v) t.head)

    before : HasMonomial f h.head
    before z = one_not_zero (sym marked.monic ∙ ap (coefficient f) t.head ∙ z)

    -- the monomial of the step is lighter: else it is one of h, which a mark of hs divides
    lower : whole_weight v s.at <ℤ whole_weight v h.head
    lower = at (three (whole_weight v s.at) (whole_weight v h.head))
      where
        level : whole_weight v s.at ≡ whole_weight v h.head → ⊥
        level e =
            let q = matched-from (IsLifted n fs v) hs ks lifts s.member s.contained in
            let m : HasMonomial h.poly s.at = λ z. s.there (sym (t.form.heaviest s.at (λ y k. omega (arith, ints, top y k, e))) ∙ z) in
            let d : same s.at h.head ≡ true = tails h c s.at m (record {
              member = q.0;
              contained = q.1;
              rest = s.rest;
              divides = subst (λ (z : Exponents). same s.at (plus s.rest z) ≡ true) q.2.head s.divides;
            }) in
            false≢true (sym u ∙ ap (same s.at) t.head ∙ d)

        at : (whole_weight v s.at <ℤ whole_weight v h.head) ⊎ ((whole_weight v s.at ≡ whole_weight v h.head) ⊎ (whole_weight v h.head <ℤ whole_weight v s.at)) →
            whole_weight v s.at <ℤ whole_weight v h.head
        at (inl d) = d
        at (inr (inl e)) = absurd (level e)
        at (inr (inr d)) = absurd (omega (arith, ints, d, top s.at s.there))

    closed : IsClosed (Contains ks) (λ (y : Exponents). whole_weight v y <ℤ whole_weight v h.head)
    closed = closed_downward (Contains ks) (IsBeyond v a) (λ (y : Exponents). whole_weight v y <ℤ whole_weight v h.head) (beyond-strict v a o nz) marks
        (λ y z e d. omega (arith, ints, whole_weight-same v y z e, d))
        (λ y z l d. down y z l d)
      where
        down : (y z : Exponents) → IsBeyond v a y z → whole_weight v z <ℤ whole_weight v h.head → whole_weight v y <ℤ whole_weight v h.head
        down y z (inl l) d = omega (arith, ints, l, d)
        down y z (inr k) d = omega (arith, ints, further-weight v a y z o k, d)

    -- so is all that it takes away
    under : IsWithin (λ (y : Exponents). whole_weight v y <ℤ whole_weight v h.head) (times (neg_ℚ (coefficient f s.at)) s.rest s.member.poly)
    under = multiple_within (Contains ks) (λ (y : Exponents). whole_weight v y <ℤ whole_weight v h.head) s.member (neg_ℚ (coefficient f s.at))
        s.rest closed s.contained
        (closed.along s.at (plus s.rest s.member.head) s.divides lower)

    -- and what isn't lighter stays
    kept : (y : Exponents) → whole_weight v h.head ≤ℤ whole_weight v y → coefficient g y ≡ coefficient f y
    kept y d = s.equal y ∙ coefficient-++ f (times (neg_ℚ (coefficient f s.at)) s.rest s.member.poly) y ∙ ap (λ z. coefficient f y +ℚ z) none ∙ +ℚ-zero _
      where
        none : coefficient (times (neg_ℚ (coefficient f s.at)) s.rest s.member.poly) y ≡ zero_ℚ
        none = elim (zero_or_not (coefficient (times (neg_ℚ (coefficient f s.at)) s.rest s.member.poly) y)) [
          | inl z ↦ z
          | inr k ↦ absurd (omega (arith, ints, under y k, d))
        ]

    there : HasMonomial g h.head
    there z = before (sym (kept h.head (omega (arith, ints))) ∙ z)

    top_after : (y : Exponents) → HasMonomial g y → whole_weight v y ≤ℤ whole_weight v h.head
    top_after y m = at (three (whole_weight v y) (whole_weight v h.head))
      where
        at : (whole_weight v y <ℤ whole_weight v h.head) ⊎ ((whole_weight v y ≡ whole_weight v h.head) ⊎ (whole_weight v h.head <ℤ whole_weight v y)) →
            whole_weight v y ≤ℤ whole_weight v h.head
        at (inl d) = omega (arith, ints, d)
        at (inr (inl e)) = omega (arith, ints, e)
        at (inr (inr d)) = top y (λ z. m (kept y (omega (arith, ints, d)) ∙ z))

-- what steps at unmarked monomials lead to
pub lifted_tail : (n : ℕ) (fs : List Terms) (v a : List ℤ) (hs ks : List MarkedPolynomial) (h l : MarkedPolynomial) (g : Terms) → AreInVariables n fs →
    dot a v ≡ pos 0 → IsNonzero a → AreMarked (IsFurther a) hs → HasReducedTails hs → AreLifted n fs v hs ks → Contains hs h →
    ReachedBeside ks (Some l.head) l.poly g → IsLifted n fs v h l → IsLifted n fs v h (record { poly = g; head = l.head })
lifted_tail n fs v a hs ks h l g vars o nz further tails lifts c ReachedBeside.here t = t
lifted_tail n fs v a hs ks h l g vars o nz further tails lifts c (ReachedBeside.next f k r s u d) t =
    lifted_step n fs v a hs ks h l.head f g vars o nz further tails lifts c s u (lifted_tail n fs v a hs ks h l f vars o nz further tails lifts c r t)

-- ---- lists

-- one element is put in
matched-set : (R : MarkedPolynomial → MarkedPolynomial → Type 0) (xs ys : List MarkedPolynomial) (i : ℕ) (c : MarkedPolynomial) → Matching R xs ys →
    ((x y : MarkedPolynomial) → Contains xs x → IsAt ys i y → R x y → R x c) → Matching R xs (set ys i c)
matched-set R [] [] i c m h = tt
matched-set R [] (y ∷ ys) i c m h = elim m [ ]
matched-set R (x ∷ xs) [] i c m h = elim m [ ]
matched-set R (x ∷ xs) (y ∷ ys) zero c m h = (h x y (zero, omega arith, refl) (record { within = omega arith; is = refl }) m.0, m.1)
matched-set R (x ∷ xs) (y ∷ ys) (suc i) c m h =
    (m.0, matched-set R xs ys i c m.1 (λ z w k p r. h z w (suc k.0, omega (arith, k.1), k.2) (record { within = omega (arith, p.within); is = p.is }) r))

lifted_next : (n : ℕ) (fs : List Terms) (v a : List ℤ) (hs ms ns : List MarkedPolynomial) (flags : List Bool) (i : ℕ) → AreInVariables n fs → dot a v ≡ pos 0 →
    IsNonzero a → AreMarked (IsFurther a) hs → HasReducedTails hs → IsNextInTurn ms flags i ns → AreLifted n fs v hs ms → AreLifted n fs v hs ns
lifted_next n fs v a hs ms ns flags i vars o nz further tails (inl s) lifts = subst (AreLifted n fs v hs) (sym s.0) lifts
lifted_next n fs v a hs ms ns flags i vars o nz further tails (inr x) lifts =
    subst (AreLifted n fs v hs) (sym x.2) (matched-set (IsLifted n fs v) hs ms i x.0 lifts (λ h l c p t. put h l c (x.1.at l p) t))
  where
    put : (h l : MarkedPolynomial) → Contains hs h → IsReducedLift ms l x.0 → IsLifted n fs v h l → IsLifted n fs v h x.0
    put h l c r t = subst (λ (z : Exponents). IsLifted n fs v h (record { poly = x.0.poly; head = z })) (sym r.head)
        (lifted_tail n fs v a hs ms h l x.0.poly vars o nz further tails lifts c r.reached t)

lifted_turned : (n : ℕ) (fs : List Terms) (v a : List ℤ) (hs ls : List MarkedPolynomial) (flags : List Bool) (i : ℕ) (ms : List MarkedPolynomial) →
    AreInVariables n fs → dot a v ≡ pos 0 → IsNonzero a → AreMarked (IsFurther a) hs → HasReducedTails hs → AreTailsInTurn ls flags i ms →
    AreLifted n fs v hs ls → AreLifted n fs v hs ms
lifted_turned n fs v a hs ls flags i ms vars o nz further tails AreTailsInTurn.none lifts = lifts
lifted_turned n fs v a hs ls flags i ns vars o nz further tails (AreTailsInTurn.more j ms ks t l x) lifts =
    lifted_next n fs v a hs ms ns flags j vars o nz further tails x (lifted_turned n fs v a hs ls flags j ms vars o nz further tails t lifts)

-- lifts of which tails are reduced one after another are lifts
pub ever_turned : (n : ℕ) (bs : List MarkedPolynomial) (a : List ℤ) (hs ls : List MarkedPolynomial) (flags : List Bool) (i : ℕ) (ms : List MarkedPolynomial) →
    IsBasisOfParts n bs a hs → AreTailsInTurn ls flags i ms → AreEverLifted n bs a hs ls → AreEverLifted n bs a hs ms
ever_turned n bs a hs ls flags i ms p t l = record {
  at = λ gs k vars b f.
      let q = parts_of n bs a hs p gs k vars b f in
      lifted_turned n gs f.point a hs ls flags i ms vars f.inside.zero q.nonzero q.further p.reduced.tails t (l.at gs k vars b f);
}
