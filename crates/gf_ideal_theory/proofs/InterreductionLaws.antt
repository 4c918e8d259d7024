-- Interreduction: members that are not needed may go, tails may be reduced, and what is left is the reduced basis.
-- To cite: interreduced, reduced-tails, apart-tails (all at once), basis-kept, basis-tails, tail-marked, tail-member, tail-head, reduced_by_weight,
-- reduced_by_order.
use Rattle.std.proofs.Common.{◌≡◌, ◌⊎◌, ℕ, Bool, true, false, List, [], ◌∷◌, Contains, arith, refl, sym, ap, ◌∙◌, subst, inl, inr}
use Rattle.gf_frac.specs.Fraction.{◌+ℚ◌, neg_ℚ, zero_ℚ}
use Rattle.gf_frac.proofs.FractionLaws.{+ℚ-zero, zero_or_not}
use Rattle.gf_exponents_theory.specs.Exponents.{Exponents, plus, same, NoMultiple}
use Rattle.gf_exponents_theory.specs.Orders.{lighter, IsStrict}
use Rattle.gf_exponents_theory.proofs.ExponentsLaws.{plus_assoc, same-refl, same_flip, same_shift, same_trans, same_of, same_shift_right}
use Rattle.gf_exponents_theory.proofs.OrderLaws.{lighter-strict}
use Rattle.gf_int_theory.proofs.ListLaws.{Contains-here}
use Rattle.gf_poly.specs.Polynomial.{Terms, coefficient, times}
use Rattle.gf_poly.specs.Marking.{MarkedPolynomial, Each}
use Rattle.gf_poly.proofs.PolynomialLaws.{coefficient-++, coefficient-same}
use Rattle.gf_ideal_theory.specs.Membership.{AreInVariables, IsMember}
use Rattle.gf_ideal_theory.specs.Marks.{IsMarked, AreMarked, IsPositive}
use Rattle.gf_ideal_theory.specs.Reduction.{IsDivisible, IsStep}
use Rattle.gf_ideal_theory.specs.Bases.{AreMembers, IsBasis, HasReducedTails, AreApart, IsReducedBasis, IsReducedBasisFor}
use Rattle.gf_ideal_theory.specs.WorkLists.{IsTail, IsReducedTail, AreReducedTails}
use Rattle.gf_ideal_theory.proofs.ListLaws.{Contains-there, Contains-cases}
use Rattle.gf_ideal_theory.proofs.StepLaws.{IsWithin, IsUpTo, IsClosed, closed-below, closed-up_to, multiple_within, sum_within, member-reached, reached-one}
use Rattle.gf_ideal_theory.proofs.BasisLaws.{groebner_by_weight, groebner_by_order}

-- ---- divisibility by other lists

-- where each mark of the first is a multiple of one of the second
pub divisible_through : (bs ks : List MarkedPolynomial) →
    ((b : MarkedPolynomial) → Contains bs b → IsDivisible (Contains ks) b.head) → (x : Exponents) →
    IsDivisible (Contains bs) x → IsDivisible (Contains ks) x
divisible_through bs ks over x d =
    let o = over d.member d.contained in
    record {
      member = o.member;
      contained = o.contained;
      rest = plus d.rest o.rest;
      divides = same_trans x (plus d.rest d.member.head) (plus (plus d.rest o.rest) o.member.head) d.divides
          (same_trans (plus d.rest d.member.head) (plus d.rest (plus o.rest o.member.head)) (plus (plus d.rest o.rest) o.member.head)
          (same_shift d.rest d.member.head (plus o.rest o.member.head) o.divides) (same_of _ _ (sym (plus_assoc d.rest o.rest o.member.head))));
    }

-- members whose marks still divide each mark are a basis
pub basis-kept : (n : ℕ) (fs : List Terms) (bs ks : List MarkedPolynomial) → IsBasis n fs bs →
    ((k : MarkedPolynomial) → Contains ks k → Contains bs k) →
    ((b : MarkedPolynomial) → Contains bs b → IsDivisible (Contains ks) b.head) → IsBasis n fs ks
basis-kept n fs bs ks b inside over = record {
  members = λ k h. b.members k (inside k h);
  marked = (b.marked.0, b.marked.1, λ k h. b.marked.2 k (inside k h));
  decides = λ f m i. b.decides f m (λ x n d. i x n (divisible_through bs ks over x d));
}

-- other members with the same marks are a basis
pub basis-tails : (n : ℕ) (fs : List Terms) (bs cs : List MarkedPolynomial) (b : IsBasis n fs bs) → AreMembers n fs cs →
    AreMarked (lighter b.marked.0) cs →
    ((d : MarkedPolynomial) → Contains bs d → (c : MarkedPolynomial) × Contains cs c × (same d.head c.head ≡ true)) →
    IsBasis n fs cs
basis-tails n fs bs cs b inside marked heads = record {
  members = inside;
  marked = (b.marked.0, b.marked.1, marked);
  decides = λ f m i. b.decides f m (λ x n d. i x n (divisible_through bs cs (λ e k. over e (heads e k)) x d));
}
  where
    over : (e : MarkedPolynomial) → ((c : MarkedPolynomial) × Contains cs c × (same e.head c.head ≡ true)) →
        IsDivisible (Contains cs) e.head
    over e c = record { member = c.0; contained = c.1; rest = []; divides = c.2 }

-- ---- a step at an unmarked term keeps the mark

tail_step : (by : MarkedPolynomial → Type 0) (below : Exponents → Exponents → Type 0) (f g : Terms) (h : Exponents) (s : IsStep by f g) →
    IsStrict below → ((b : MarkedPolynomial) → by b → IsMarked below b) → IsWithin (IsUpTo below h) f →
    same s.at h ≡ false → (coefficient g h ≡ coefficient f h) × IsWithin (IsUpTo below h) g
tail_step by below f g h s o m w n = (
  kept,
  sum_within (IsUpTo below h) f (times (neg_ℚ (coefficient f s.at)) s.rest s.member.poly) g w
      (multiple_within by (IsUpTo below h) s.member (neg_ℚ (coefficient f s.at)) s.rest down s.contained top) s.equal,
)
  where
    down : IsClosed by (IsUpTo below h)
    down = closed-up_to by below h o m

    top : IsUpTo below h (plus s.rest s.member.head)
    top = down.along s.at (plus s.rest s.member.head) s.divides (w s.at s.there)

    -- the multiple stays below h
    under : below (plus s.rest s.member.head) h
    under = elim top [
      | inl q ↦ let y : same s.at h ≡ true = same_trans s.at (plus s.rest s.member.head) h s.divides q in absurd (cc)
      | inr l ↦ l
    ]

    none : coefficient (times (neg_ℚ (coefficient f s.at)) s.rest s.member.poly) h ≡ zero_ℚ
    none = elim (zero_or_not (coefficient (times (neg_ℚ (coefficient f s.at)) s.rest s.member.poly) h)) [
      | inl z ↦ z
      | inr k ↦ absurd (o.irreflexive h h (same-refl h) (multiple_within by (λ y. below y h) s.member (neg_ℚ (coefficient f s.at)) s.rest
          (closed-below by below h o m) s.contained under h k))
    ]

    kept : coefficient g h ≡ coefficient f h
    kept = s.equal h ∙ coefficient-++ f (times (neg_ℚ (coefficient f s.at)) s.rest s.member.poly) h ∙ ap (λ z. coefficient f h +ℚ z) none ∙ +ℚ-zero _

-- ---- tails

-- tails of marked polynomials are marked
pub tail-marked : (below : Exponents → Exponents → Type 0) (bs : List MarkedPolynomial) (b : MarkedPolynomial) →
    IsStrict below → AreMarked below bs → IsTail bs b → IsMarked below b
tail-marked below bs b o m (IsTail.member d c) = m b c
tail-marked below bs b o m (IsTail.step d e t h s n) = at (tail-marked below bs d o m t)
  where
    at : IsMarked below d → IsMarked below b
    at k =
        let r = tail_step (Contains bs) below d.poly b.poly d.head s o m k.tail n in
        record { monic = coefficient-same b.poly b.head d.head (same_flip d.head b.head h) ∙ r.0 ∙ k.monic; tail = λ x q. along x (r.1 x q) }
      where
        along : (x : Exponents) → IsUpTo below d.head x → (same x b.head ≡ true) ⊎ below x b.head
        along x (inl q) = inl (same_trans x d.head b.head q h)
        along x (inr l) = inr (o.along_right x d.head b.head h l)

-- tails of members are members
pub tail-member : (n : ℕ) (fs : List Terms) (bs : List MarkedPolynomial) (b : MarkedPolynomial) → AreInVariables n fs →
    AreMembers n fs bs → IsTail bs b → IsMember n fs b.poly
tail-member n fs bs b v m (IsTail.member d c) = m b c
tail-member n fs bs b v m (IsTail.step d e t h s k) = member-reached n fs (Contains bs) d.poly b.poly v m (reached-one (Contains bs) d.poly b.poly s)
    (tail-member n fs bs d v m t)

-- a basis of tails
pub basis-of_tails : (n : ℕ) (fs : List Terms) (bs cs : List MarkedPolynomial) → AreInVariables n fs → IsBasis n fs bs →
    ((c : MarkedPolynomial) → Contains cs c → IsTail bs c) →
    ((d : MarkedPolynomial) → Contains bs d → (c : MarkedPolynomial) × Contains cs c × (same d.head c.head ≡ true)) →
    IsBasis n fs cs
basis-of_tails n fs bs cs v b t h = basis-tails n fs bs cs b (λ c k. tail-member n fs bs c v b.members (t c k))
    (λ c k. tail-marked (lighter b.marked.0) bs c (lighter-strict b.marked.0) b.marked.2 (t c k)) h

-- ---- all tails reduced, index by index

pub tails-of_index : (bs ks cs : List MarkedPolynomial) → AreReducedTails bs ks cs → (c : MarkedPolynomial) →
    Contains cs c → (k : MarkedPolynomial) × Contains ks k × IsReducedTail bs k c
tails-of_index bs [] [] h c q = absurd (omega (arith, q.1))
tails-of_index bs [] (d ∷ cs) h c q = elim h [ ]
tails-of_index bs (k ∷ ks) [] h c q = elim h [ ]
tails-of_index bs (k ∷ ks) (d ∷ cs) h c q = at (Contains-cases d c cs q) (λ r. tails-of_index bs ks cs h.1 c r)
  where
    at : (d ≡ c) ⊎ Contains cs c → (Contains cs c → (j : MarkedPolynomial) × Contains ks j × IsReducedTail bs j c) →
        (j : MarkedPolynomial) × Contains (k ∷ ks) j × IsReducedTail bs j c
    at (inl e) r = (k, Contains-here k ks, subst (λ (x : MarkedPolynomial). IsReducedTail bs k x) e h.0)
    at (inr s) r = let j = r s in (j.0, Contains-there k j.0 ks j.1, j.2)

tails-at_index : (bs ks cs : List MarkedPolynomial) → AreReducedTails bs ks cs → (k : MarkedPolynomial) →
    Contains ks k → (c : MarkedPolynomial) × Contains cs c × (same k.head c.head ≡ true)
tails-at_index bs [] [] h k q = absurd (omega (arith, q.1))
tails-at_index bs [] (d ∷ cs) h k q = elim h [ ]
tails-at_index bs (j ∷ ks) [] h k q = elim h [ ]
tails-at_index bs (j ∷ ks) (d ∷ cs) h k q = at (Contains-cases j k ks q) (λ r. tails-at_index bs ks cs h.1 k r)
  where
    at : (j ≡ k) ⊎ Contains ks k →
        (Contains ks k → (c : MarkedPolynomial) × Contains cs c × (same k.head c.head ≡ true)) →
        (c : MarkedPolynomial) × Contains (d ∷ cs) c × (same k.head c.head ≡ true)
    at (inl e) r = (d, Contains-here d cs, subst (λ (x : MarkedPolynomial). same x.head d.head ≡ true) e h.0.head)
    at (inr s) r = let c = r s in (c.0, Contains-there d c.0 cs c.1, c.2)

-- other exponents that are the same are multiples of the same
apart-along : (h k x y : Exponents) → same h x ≡ true → same k y ≡ true → NoMultiple h k → NoMultiple x y
apart-along h k x y s t n rest = at (same y (plus x rest)) refl
  where
    at : (b : Bool) → same y (plus x rest) ≡ b → b ≡ false
    at false e = refl
    at true e =
        let f : same k (plus h rest) ≡ false = n rest in
        let g : same k (plus h rest) ≡ true =
        same_trans k y (plus h rest) t (same_trans y (plus x rest) (plus h rest) e (same_shift_right rest x h (same_flip h x s))) in
        absurd (cc)

-- members with the same marks are apart too
pub apart-tails : (bs ks cs : List MarkedPolynomial) → AreReducedTails bs ks cs → AreApart ks → AreApart cs
apart-tails bs [] [] h a = tt
apart-tails bs [] (d ∷ cs) h a = elim h [ ]
apart-tails bs (k ∷ ks) [] h a = elim h [ ]
apart-tails bs (k ∷ ks) (c ∷ cs) h a = (first ks cs h.1 a.0, apart-tails bs ks cs h.1 a.1)
  where
    first : (ks cs : List MarkedPolynomial) → AreReducedTails bs ks cs →
        Each (λ (j : MarkedPolynomial). NoMultiple k.head j.head × NoMultiple j.head k.head) ks →
        Each (λ (d : MarkedPolynomial). NoMultiple c.head d.head × NoMultiple d.head c.head) cs
    first [] [] r e = tt
    first [] (d ∷ cs) r e = elim r [ ]
    first (j ∷ ks) [] r e = elim r [ ]
    first (j ∷ ks) (d ∷ cs) r e = (
      (
        apart-along k.head j.head c.head d.head h.0.head r.0.head e.0.0,
        apart-along j.head k.head d.head c.head r.0.head h.0.head e.0.1,
      ),
      first ks cs r.1 e.1,
    )

-- the tails of members that are apart, reduced by them
pub reduced-tails : (ks cs : List MarkedPolynomial) → AreReducedTails ks ks cs → HasReducedTails cs
reduced-tails ks cs h c q x m d = at (tails-of_index ks ks cs h c q)
  where
    over : (e : MarkedPolynomial) → ((k : MarkedPolynomial) × Contains ks k × IsReducedTail ks k e) →
        IsDivisible (Contains ks) e.head
    over e k = record { member = k.0; contained = k.1; rest = []; divides = same_flip k.0.head e.head k.2.head }

    at : ((k : MarkedPolynomial) × Contains ks k × IsReducedTail ks k c) → same x c.head ≡ true
    at k = k.2.irreducible x m (divisible_through cs ks (λ e j. over e (tails-of_index ks ks cs h e j)) x d)

-- members whose marks are apart and still divide each mark, with their tails reduced by them: a basis, reduced
pub interreduced : (n : ℕ) (fs : List Terms) (bs ks cs : List MarkedPolynomial) → AreInVariables n fs →
    IsBasis n fs bs → ((k : MarkedPolynomial) → Contains ks k → Contains bs k) →
    ((b : MarkedPolynomial) → Contains bs b → IsDivisible (Contains ks) b.head) → AreReducedTails ks ks cs →
    IsBasis n fs cs
interreduced n fs bs ks cs v b inside over t = basis-of_tails n fs ks cs v (basis-kept n fs bs ks b inside over) (λ c q. (tails-of_index ks ks cs t c q).2.tail)
    (λ k q. tails-at_index ks ks cs t k q)

-- ---- reduced bases

-- reduced for a weight
pub reduced_by_weight : (n : ℕ) (fs : List Terms) (bs : List MarkedPolynomial) (w : List ℕ) → AreInVariables n fs →
    IsBasis n fs bs → IsPositive n w → AreMarked (lighter w) bs → HasReducedTails bs → AreApart bs →
    IsReducedBasis n fs w bs
reduced_by_weight n fs bs w v b p m t h = record {
  positive = p;
  reduced = record { basis = (groebner_by_weight n fs bs w v b p m).basis; tails = t; heads = h };
}

-- reduced for an order
pub reduced_by_order : (n : ℕ) (fs : List Terms) (bs : List MarkedPolynomial) (below : Exponents → Exponents → Type 0) →
    AreInVariables n fs → IsBasis n fs bs → IsStrict below → AreMarked below bs → HasReducedTails bs → AreApart bs →
    IsReducedBasisFor n fs below bs
reduced_by_order n fs bs below v b o m t h = record { basis = groebner_by_order n fs bs below v b o m; tails = t; heads = h }
