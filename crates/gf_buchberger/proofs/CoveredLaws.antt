-- Covered pairs: they stay so while members are appended, and where each pair is settled or covered, all are settled.
use Rattle.std.specs.Prelude.{◌≡◌, ◌≢◌, ◌⊎◌, ℕ, zero, suc, ◌+◌, ◌*◌, ◌<◌, ◌≤◌, max, min, List, [], ◌∷◌, ◌++◌, length, slice_index_or}
use Rattle.std.proofs.Common.{arith, refl, sym, ap, ◌∙◌, subst, inl, inr}
use Rattle.std.proofs.lemmas.Bool.{cases_lt}
use Rattle.gf_exponents_theory.specs.Exponents.{Exponents, join, minus, plus}
use Rattle.gf_exponents_theory.proofs.ExponentsLaws.{same_of}
use Rattle.gf_exponents_theory.specs.SixOrders.{MonomialOrder, below_of}
use Rattle.gf_exponents_theory.proofs.SixOrdersLaws.{order-is}
use Rattle.gf_order.specs.Comparisons.{HasEntries}
use Rattle.gf_poly.specs.Marking.{MarkedPolynomial, polys}
use Rattle.gf_poly.proofs.MonomialLaws.{length-join, plus-minus}
use Rattle.gf_ideal_theory.specs.Membership.{AreInVariables}
use Rattle.gf_ideal_theory.specs.Marks.{AreMarked}
use Rattle.gf_ideal_theory.specs.Settled.{IsAt, IsSettledPair, ArePairsSettled}
use Rattle.gf_ideal_theory.proofs.CriteriaLaws.{pair_by_product, pair_by_chain, pair_turned}
use Rattle.gf_ideal_theory.proofs.DividingLaws.{member_contained}
use Rattle.gf_division.proofs.ReducerLaws.{members_equal}
use Rattle.gf_buchberger.specs.declared.covered.Rank.{Rank}
use Rattle.gf_buchberger.specs.Covered.{rank_of, IsBelow, AreCoprimeOrBelow, IsCovering, IsCovered}
use Rattle.gf_buchberger.specs.Runs.{MembersHaveVariables, AreComparable, IsMultipleOf}

-- ---- as a program reads marks

-- x is the mark of the member b at i
pub record IsMarkAt (bs : List MarkedPolynomial) (i : ℕ) (b : MarkedPolynomial) (x : Exponents) : Type 0 where
  pub at : IsAt bs i b
  pub mark : x ≡ b.head

pub mark_at : (bs : List MarkedPolynomial) (i : ℕ) (b : MarkedPolynomial) (x : Exponents) → i < length bs → b ≡ slice_index_or bs i b → x ≡ b.head →
    IsMarkAt bs i b x
mark_at bs i b x l e h = record { at = record { within = l; is = sym e }; mark = h }

pub mark_length : (n : ℕ) (bs : List MarkedPolynomial) (i : ℕ) (b : MarkedPolynomial) (x : Exponents) → MembersHaveVariables n bs →
    IsMarkAt bs i b x → length x ≡ n
mark_length n bs i b x v h = ap length h.mark ∙ v.heads b (member_contained bs i b h.at)

pub mark_lengths : (n : ℕ) (bs : List MarkedPolynomial) (i j : ℕ) (b c : MarkedPolynomial) (x y : Exponents) → MembersHaveVariables n bs →
    IsMarkAt bs i b x → IsMarkAt bs j c y → length x ≡ length y
mark_lengths n bs i j b c x y v p q = mark_length n bs i b x v p ∙ sym (mark_length n bs j c y v q)

pub join_entries : (order : MonomialOrder) (bs : List MarkedPolynomial) (i j : ℕ) (b c : MarkedPolynomial) (x y m : Exponents) →
    AreComparable order bs → IsMarkAt bs i b x → IsMarkAt bs j c y → m ≡ join x y → HasEntries (length m) order
join_entries order bs i j b c x y m v p q e = subst (λ (k : ℕ). HasEntries k order) (sym (ap length e ∙ length-join x y
    (mark_lengths v.n bs i j b c x y v.each p q) ∙ mark_length v.n bs i b x v.each p)) v.entries

-- the least common multiple of the marks, and the other way round
pub join_of_marks : (bs : List MarkedPolynomial) (i j : ℕ) (b c : MarkedPolynomial) (x y m : Exponents) → IsMultipleOf bs i j m → IsMarkAt bs i b x →
    IsMarkAt bs j c y → m ≡ join x y
join_of_marks bs i j b c x y m h p q = h b c p.at q.at ∙ ap (λ (z : Exponents). join z c.head) (sym p.mark) ∙ ap (λ (z : Exponents). join x z) (sym q.mark)

pub multiple_of_marks : (bs : List MarkedPolynomial) (i j : ℕ) (b c : MarkedPolynomial) (x y m : Exponents) → IsMarkAt bs i b x → IsMarkAt bs j c y →
    m ≡ join x y → IsMultipleOf bs i j m
multiple_of_marks bs i j b c x y m p q e d f s t =
    e
    ∙ ap (λ (z : Exponents). join z y) (p.mark ∙ ap (λ (z : MarkedPolynomial). z.head) (members_equal bs i b d p.at s))
    ∙ ap (λ (z : Exponents). join d.head z) (q.mark ∙ ap (λ (z : MarkedPolynomial). z.head) (members_equal bs j c f q.at t))

pub covered_by_marks : (bs : List MarkedPolynomial) (i j k : ℕ) (b c d : MarkedPolynomial) (x y z : Exponents) → IsMarkAt bs i b x →
    IsMarkAt bs j c y → IsMarkAt bs k d z → IsCovering x y z i j k → IsCovered bs i j
covered_by_marks bs i j k b c d x y z p q r h = record {
  k = k;
  b = b;
  c = c;
  d = d;
  at_i = p.at;
  at_j = q.at;
  at_k = r.at;
  covering =
      subst (λ (u : Exponents). IsCovering u c.head d.head i j k) p.mark
      (subst (λ (u : Exponents). IsCovering x u d.head i j k) q.mark
      (subst (λ (u : Exponents). IsCovering x y u i j k) r.mark h));
}

-- ---- members appended

at_longer : (bs : List MarkedPolynomial) (b c : MarkedPolynomial) (i : ℕ) → IsAt bs i c → IsAt (bs ++ b ∷ []) i c
at_longer [] b c i h = absurd (omega (arith, h.within))
at_longer (a ∷ bs) b c zero h = record { within = omega arith; is = h.is }
at_longer (a ∷ bs) b c (suc i) h = let r = at_longer bs b c i (record { within = omega (arith, h.within); is = h.is }) in record {
  within = omega
      (arith, r.within);
  is = r.is;
}

pub covered_longer : (bs : List MarkedPolynomial) (b : MarkedPolynomial) (i j : ℕ) → IsCovered bs i j → IsCovered (bs ++ b ∷ []) i j
covered_longer bs b i j h = record {
  k = h.k;
  b = h.b;
  c = h.c;
  d = h.d;
  at_i = at_longer bs b h.b i h.at_i;
  at_j = at_longer bs b h.c j h.at_j;
  at_k = at_longer bs b h.d h.k h.at_k;
  covering = h.covering;
}

-- ---- ranks as numbers

-- of the pairs of n members
abbrev rank_number : ℕ → Rank → ℕ
rank_number n r = (r.degree * n + r.later) * n + r.apart

times_up : (a b n r s : ℕ) → a < b → r < n → a * n + r < b * n + s
times_up a b n r s l m = omega (arith, least (suc a) b n l)
  where
    least : (a b n : ℕ) → a ≤ b → a * n ≤ b * n
    least a b n l = grind arith

below_number : (n : ℕ) (r s : Rank) → r.later < n → r.apart < n → IsBelow r s → rank_number n r < rank_number n s
below_number n r s l m (inl d) = times_up (r.degree * n + r.later) (s.degree * n + s.later) n r.apart s.apart
    (times_up r.degree s.degree n r.later s.later d l) m
below_number n r s l m (inr (d, inl k)) = times_up (r.degree * n + r.later) (s.degree * n + s.later) n r.apart s.apart (rw d (omega arith)) m
below_number n r s l m (inr (d, inr (e, k))) = rw d (rw e (omega arith))

-- ---- the end of a run

join-turned : (x y : Exponents) → join x y ≡ join y x
join-turned [] [] = refl
join-turned [] (b ∷ y) = refl
join-turned (a ∷ x) [] = refl
join-turned (a ∷ x) (b ∷ y) = let e : max a b ≡ max b a = omega arith in rw e (ap (λ z. max b a ∷ z) (join-turned x y))

-- the number of the pair of b and c at the indices i and j
abbrev number_of : List MarkedPolynomial → ℕ → ℕ → MarkedPolynomial → MarkedPolynomial → ℕ
number_of bs i j b c = rank_number (length bs) (rank_of (join b.head c.head) i j)

number-turned : (bs : List MarkedPolynomial) (i j : ℕ) (b c : MarkedPolynomial) → number_of bs j i c b ≡ number_of bs i j b c
number-turned bs i j b c =
    let e : join c.head b.head ≡ join b.head c.head = join-turned c.head b.head in
    let f : max j i ≡ max i j = omega arith in
    let g : min j i ≡ min i j = omega arith in
    rw e (rw f (rw g refl))

-- marked members in n variables
record AreMembersOf (order : MonomialOrder) (n : ℕ) (bs : List MarkedPolynomial) : Type 0 where
  inside : AreInVariables n (polys bs)
  variables : MembersHaveVariables n bs
  marked : AreMarked (below_of order) bs

-- the pairs with a lesser number than k are settled
abbrev AreSettledBefore : MonomialOrder → ℕ → List MarkedPolynomial → ℕ → Type 0
AreSettledBefore order n bs k = (i j : ℕ) (b c : MarkedPolynomial) → i < j → IsAt bs i b → IsAt bs j c → number_of bs i j b c < k →
    IsSettledPair n bs (below_of order) b c

-- a pair of which a covered one is made
lesser_settled : (order : MonomialOrder) (n : ℕ) (bs : List MarkedPolynomial) (r : Rank) (p q : ℕ) (d e : MarkedPolynomial) →
    AreMembersOf order n bs → AreSettledBefore order n bs (rank_number (length bs) r) → p ≢ q → IsAt bs p d → IsAt bs q e →
    AreCoprimeOrBelow d.head e.head p q r → IsSettledPair n bs (below_of order) d e
lesser_settled order n bs r p q d e m h u s t (inl c) = pair_by_product n bs (below_of order) d e m.inside (order-is order).strict m.marked
    (member_contained bs p d s) (member_contained bs q e t) c
lesser_settled order n bs r p q d e m h u s t (inr b) = elim (cases_lt p q) [
  | inl k ↦ h p q d e k s t lower
  | inr k ↦ pair_turned n bs (below_of order) e d m.inside (order-is order).strict m.marked (member_contained bs q e t) (member_contained bs p d s)
      (h q p e d (omega (arith, u)) t s (subst (λ (z : ℕ). z < rank_number (length bs) r) (sym (number-turned bs p q d e)) lower))
]
  where
    lower : number_of bs p q d e < rank_number (length bs) r
    lower = below_number (length bs) (rank_of (join d.head e.head) p q) r (omega (arith, s.within, t.within)) (omega (arith, s.within, t.within)) b

-- a covered pair is settled where those before it are: the chain criterion
covered_settled : (order : MonomialOrder) (n : ℕ) (bs : List MarkedPolynomial) (i j : ℕ) (b c : MarkedPolynomial) → AreMembersOf order n bs →
    AreSettledBefore order n bs (number_of bs i j b c) → IsAt bs i b → IsAt bs j c → IsCovered bs i j → IsSettledPair n bs (below_of order) b c
covered_settled order n bs i j b c m before x y h =
    pair_by_chain n bs (below_of order) b c h.d (minus (join b.head c.head) h.d.head) m.inside (order-is order).strict m.marked
    (member_contained bs i b x) (member_contained bs j c y) (same_of (join b.head c.head) (plus (minus (join b.head c.head) h.d.head) h.d.head) product)
    (lesser_settled order n bs (rank_of (join b.head c.head) i j) i h.k b h.d m before (λ e. covering.not_first (sym e)) x h.at_k covering.left)
    (lesser_settled order n bs (rank_of (join b.head c.head) i j) h.k j h.d c m before covering.not_second h.at_k y covering.right)
  where
    covering : IsCovering b.head c.head h.d.head i j h.k
    covering =
        subst (λ (z : MarkedPolynomial). IsCovering z.head c.head h.d.head i j h.k) (members_equal bs i h.b b h.at_i x)
        (subst (λ (z : MarkedPolynomial). IsCovering h.b.head z.head h.d.head i j h.k) (members_equal bs j h.c c h.at_j y) h.covering)

    length_b : length b.head ≡ n
    length_b = m.variables.heads b (member_contained bs i b x)

    length_c : length c.head ≡ n
    length_c = m.variables.heads c (member_contained bs j c y)

    length_d : length h.d.head ≡ n
    length_d = m.variables.heads h.d (member_contained bs h.k h.d h.at_k)

    product : join b.head c.head ≡ plus (minus (join b.head c.head) h.d.head) h.d.head
    product = sym (plus-minus (join b.head c.head) h.d.head (length-join b.head c.head
        (length_b ∙ sym length_c) ∙ length_b ∙ sym length_d) covering.divides)

-- each pair is settled or covered
abbrev pub AreSettledOrCovered : MonomialOrder → ℕ → List MarkedPolynomial → Type 0
AreSettledOrCovered order n bs = (i j : ℕ) (b c : MarkedPolynomial) → i < j → IsAt bs i b → IsAt bs j c →
    IsSettledPair n bs (below_of order) b c ⊎ IsCovered bs i j

settled_before : (order : MonomialOrder) (n : ℕ) (bs : List MarkedPolynomial) (k : ℕ) → AreMembersOf order n bs → AreSettledOrCovered order n bs →
    AreSettledBefore order n bs k
settled_before order n bs zero m each i j b c l x y f = absurd (omega arith)
settled_before order n bs (suc k) m each i j b c l x y f = at (each i j b c l x y)
    (λ p q d e g s t h. settled_before order n bs k m each p q d e g s t (omega (arith, h, f)))
  where
    at : IsSettledPair n bs (below_of order) b c ⊎ IsCovered bs i j → AreSettledBefore order n bs (number_of bs i j b c) →
        IsSettledPair n bs (below_of order) b c
    at (inl h) before = h
    at (inr h) before = covered_settled order n bs i j b c m before x y h

-- where each pair is settled or covered, all are settled: by induction on their ranks
pub all_of_covered : (order : MonomialOrder) (n : ℕ) (bs : List MarkedPolynomial) → AreInVariables n (polys bs) → MembersHaveVariables n bs →
    AreMarked (below_of order) bs → AreSettledOrCovered order n bs → ArePairsSettled n bs (below_of order)
all_of_covered order n bs v w m each i j b c l x y = settled_before order n bs (suc (number_of bs i j b c))
    (record { inside = v; variables = w; marked = m }) each i j b c l x y (omega arith)
