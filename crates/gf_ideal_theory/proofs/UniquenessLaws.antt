-- The reduced Gröbner basis of an ideal, for a weight or for an order, is the only one.
-- To cite: unique_by_weight, unique_by_order. The rest are steps.
use Rattle.std.proofs.Common.{◌≡◌, ◌⊎◌, ℕ, zero, suc, ◌<◌, true, false, List, [], ◌∷◌, ◌++◌, length, Contains, slice_index_or, arith, sym, ap, ◌∙◌, subst, inl}
use Rattle.std.proofs.Common.{inr}
use Rattle.gf_frac.specs.Fraction.{Fraction, ◌+ℚ◌, ◌*ℚ◌, neg_ℚ, zero_ℚ, one_ℚ}
use Rattle.gf_frac.proofs.FractionLaws.{+ℚ_assoc, +ℚ_comm, +ℚ-zero, +ℚ-neg_ℚ, zero-+ℚ, zero_or_not}
use Rattle.gf_exponents_theory.specs.Exponents.{Exponents, plus, same, NoMultiple}
use Rattle.gf_exponents_theory.specs.Orders.{lighter, IsMonomialOrder}
use Rattle.gf_exponents_theory.proofs.ExponentsLaws.{plus_comm, same_flip, same_trans, entry-plus, entries_same, same_by_entries}
use Rattle.gf_poly.specs.Polynomial.{Terms, coefficient, SamePolynomial, times}
use Rattle.gf_poly.specs.Marking.{MarkedPolynomial}
use Rattle.gf_poly.proofs.PolynomialLaws.{coefficient-++, coefficient-same, coefficient-factor, times-plain}
use Rattle.gf_ideal_theory.specs.Membership.{IsMember}
use Rattle.gf_ideal_theory.specs.Reduction.{IsDivisible}
use Rattle.gf_ideal_theory.specs.Bases.{IsHeaviest, IsGreatest, AreApart, IsReducedBy, IsReducedBasis, IsReducedBasisFor, IsTwin, AreSameBasis}
use Rattle.gf_ideal_theory.proofs.Identities.{neg_one}
use Rattle.gf_ideal_theory.proofs.ListLaws.{contained_each}
use Rattle.gf_ideal_theory.proofs.MembershipLaws.{member-difference}
use Rattle.gf_ideal_theory.proofs.LeadingLaws.{IsTop, top_greatest, top_heaviest}

-- ---- marks
pub apart_same : (bs : List MarkedPolynomial) (b c : MarkedPolynomial) → AreApart bs → Contains bs b → Contains bs c →
    (y : Exponents) → same c.head (plus y b.head) ≡ true → b ≡ c
apart_same bs b c a hb hc y s = at bs a hb.0 hb.1 hb.2 hc.0 hc.1 hc.2
  where
    clash : (n : NoMultiple b.head c.head) → b ≡ c
    clash n = let f : same c.head (plus b.head y) ≡ false = n y in let t : same c.head (plus b.head y) ≡ true =
        ap (same c.head) (plus_comm b.head y) ∙ s in absurd (cc)

    at : (bs : List MarkedPolynomial) → AreApart bs → (i : ℕ) → i < length bs → slice_index_or bs i b ≡ b → (j : ℕ) →
        j < length bs → slice_index_or bs j c ≡ c → b ≡ c
    at [] a i l e j m f = absurd (omega arith)
    at (d ∷ bs) a zero l e zero m f = sym e ∙ f
    at (d ∷ bs) a zero l e (suc j) m f = clash (subst (λ (x : MarkedPolynomial). NoMultiple x.head c.head) e
        (contained_each (λ (x : MarkedPolynomial). NoMultiple d.head x.head × NoMultiple x.head d.head) bs a.0 c (j, omega arith, f)).0)
    at (d ∷ bs) a (suc i) l e zero m f = clash (subst (λ (x : MarkedPolynomial). NoMultiple b.head x.head) f
        (contained_each (λ (x : MarkedPolynomial). NoMultiple d.head x.head × NoMultiple x.head d.head) bs a.0 b (i, omega arith, e)).1)
    at (d ∷ bs) a (suc i) l e (suc j) m f = at bs a.1 i (omega arith) e j (omega arith) f

pub both_ways : (x y u v : Exponents) → same x (plus u y) ≡ true → same y (plus v x) ≡ true → same x y ≡ true
both_ways x y u v s t =
    same_by_entries x y (λ i. omega (arith, entries_same x (plus u y) s i, entries_same y (plus v x) t i, entry-plus u y i, entry-plus v x i))

pub equal_if : (b c : Fraction) → b +ℚ neg_ℚ c ≡ zero_ℚ → b ≡ c
equal_if b c h = sym (+ℚ-zero b) ∙ ap (λ z. b +ℚ z) (sym (+ℚ_comm (neg_ℚ c) c ∙ +ℚ-neg_ℚ c)) ∙ sym (+ℚ_assoc b (neg_ℚ c) c) ∙ ap (λ z. z +ℚ c) h ∙ zero-+ℚ c

-- each member of the one has a twin in the other
pub unique : (n : ℕ) (fs : List Terms) (below : Exponents → Exponents → Type 0) (Top : Terms → Exponents → Type 0) (bs cs : List MarkedPolynomial)
    (b : MarkedPolynomial) → IsTop below Top → IsReducedBy n fs below Top bs → IsReducedBy n fs below Top cs → Contains bs b →
    (c : MarkedPolynomial) × Contains cs c × IsTwin b c
unique n fs below Top bs cs b t p q hb =
    let d = q.basis.initial b.poly (p.basis.members b hb) b.head (t.mark b (p.basis.marked b hb)) in
    let c = d.member in
    let r = p.basis.initial c.poly (q.basis.members c d.contained) c.head (t.mark c (q.basis.marked c d.contained)) in
    (c, d.contained, twin c d.contained d.rest d.divides r)
  where
    twin : (c : MarkedPolynomial) → Contains cs c → (u : Exponents) → same b.head (plus u c.head) ≡ true →
        IsDivisible (Contains bs) c.head → IsTwin b c
    twin c hc u s r = record { head = head; poly = poly (t.some d) }
      where
        -- a mark of the first that divides b's is b's
        itself : r.member ≡ b
        itself = apart_same bs r.member b p.heads r.contained hb (plus u r.rest)
            (same_by_entries b.head (plus (plus u r.rest) r.member.head) (λ i. omega (
              arith,
              entries_same b.head (plus u c.head) s i,
              entry-plus u c.head i,
              entries_same c.head (plus r.rest r.member.head) r.divides i,
              entry-plus r.rest r.member.head i,
              entry-plus (plus u r.rest) r.member.head i,
              entry-plus u r.rest i,
            )))

        head : same b.head c.head ≡ true
        head = both_ways b.head c.head u r.rest s (subst (λ (x : MarkedPolynomial). same c.head (plus r.rest x.head) ≡ true) itself r.divides)

        d : Terms
        d = b.poly ++ times (neg_ℚ one_ℚ) [] c.poly

        difference : (e : Exponents) → coefficient d e ≡ coefficient b.poly e +ℚ neg_ℚ (coefficient c.poly e)
        difference e = coefficient-++ b.poly (times (neg_ℚ one_ℚ) [] c.poly) e ∙ ap (λ z. coefficient b.poly e +ℚ z) (coefficient-factor (neg_ℚ one_ℚ)
            [] c.poly e ∙ ap (λ g. neg_ℚ one_ℚ *ℚ coefficient g e) (times-plain c.poly) ∙ neg_one _)

        member : IsMember n fs d
        member = member-difference n fs b.poly c.poly (p.basis.members b hb) (q.basis.members c hc)

        at_mark : (x : Exponents) → same x b.head ≡ true → coefficient d x ≡ zero_ℚ
        at_mark x k =
            difference x
            ∙ ap (λ z. z +ℚ neg_ℚ (coefficient c.poly x)) (coefficient-same b.poly x b.head k ∙ (p.basis.marked b hb).monic)
            ∙ ap (λ z. one_ℚ +ℚ neg_ℚ z) (coefficient-same c.poly x c.head (same_trans x b.head c.head k head) ∙ (q.basis.marked c hc).monic)
            ∙ +ℚ-neg_ℚ one_ℚ

        clash : (x : Exponents) → Top d x → ⊥
        clash x h = elim (zero_or_not (coefficient b.poly x)) [
          | inr m ↦ t.there d x h (at_mark x (p.tails b hb x m (p.basis.initial d member x h)))
          | inl z ↦ t.there d x h (at_mark x (same_trans x c.head b.head
              (q.tails c hc x (λ y. t.there d x h (difference x ∙ ap (λ v. v +ℚ neg_ℚ (coefficient c.poly x)) z ∙ ap (λ v. zero_ℚ +ℚ neg_ℚ v) y ∙
              +ℚ-neg_ℚ zero_ℚ)) (q.basis.initial d member x h))
              (same_flip b.head c.head head)))
        ]

        poly : SamePolynomial d [] ⊎ ((x : Exponents) × Top d x) → SamePolynomial b.poly c.poly
        poly (inl z) = λ e. equal_if (coefficient b.poly e) (coefficient c.poly e) (sym (difference e) ∙ z e)
        poly (inr h) = absurd (clash h.0 h.1)

twin_back : (b c : MarkedPolynomial) → IsTwin b c → IsTwin c b
twin_back b c t = record { head = same_flip b.head c.head t.head; poly = λ x. sym (t.poly x) }

-- so the two are the same
pub same_basis : (n : ℕ) (fs : List Terms) (below : Exponents → Exponents → Type 0) (Top : Terms → Exponents → Type 0) (bs cs : List MarkedPolynomial) →
    IsTop below Top → IsReducedBy n fs below Top bs → IsReducedBy n fs below Top cs → AreSameBasis bs cs
same_basis n fs below Top bs cs t p q = record {
  there = λ b h. unique n fs below Top bs cs b t p q h;
  back = λ c h. let r = unique n fs below Top cs bs c t q p h in (r.0, r.1, twin_back c r.0 r.2);
}

-- ---- by a weight, and by an order

-- for a weight
pub unique_by_weight : (n : ℕ) (fs : List Terms) (w : List ℕ) (bs cs : List MarkedPolynomial) →
    IsReducedBasis n fs w bs → IsReducedBasis n fs w cs → AreSameBasis bs cs
unique_by_weight n fs w bs cs p q = same_basis n fs (lighter w) (IsHeaviest w) bs cs (top_heaviest w) p.reduced q.reduced

-- for an order
pub unique_by_order : (n : ℕ) (fs : List Terms) (below : Exponents → Exponents → Type 0) (bs cs : List MarkedPolynomial) →
    IsMonomialOrder below → IsReducedBasisFor n fs below bs → IsReducedBasisFor n fs below cs → AreSameBasis bs cs
unique_by_order n fs below bs cs o p q = same_basis n fs below (IsGreatest below) bs cs (top_greatest below o) p q
