-- A basis stays one, and a reduced one stays reduced, in whatever order its members are listed.
-- To cite: basis-arranged, reduced-arranged, apart-arranged. The rest are steps: apart by indices, and what one exchange
-- of two indices does to them.
use Rattle.std.specs.Prelude.{◌≡◌, ◌⊎◌, ℕ, zero, suc, ◌<◌, List, [], ◌∷◌, length, Contains, IsPermutation}
use Rattle.std.specs.List.Sorted.{apply_swaps, SwapsInRange}
use Rattle.std.specs.List.{swap}
use Rattle.std.proofs.Common.{arith, refl, sym, ◌∙◌, subst, inl, inr, get_or}
use Rattle.std.proofs.lemmas.Bool.{cases_eq}
use Rattle.std.proofs.lemmas.List.Edits.{Swapped, swapped_from_swap, length-swap}
use Rattle.std.proofs.lemmas.List.Sorted.{Contains-permutation, IsPermutation-sym}
use Rattle.gf_exponents_theory.specs.Exponents.{Exponents, NoMultiple}
use Rattle.gf_poly.specs.Polynomial.{Terms}
use Rattle.gf_poly.specs.Marking.{MarkedPolynomial}
use Rattle.gf_ideal_theory.specs.Reduction.{IsDivisible}
use Rattle.gf_ideal_theory.specs.Bases.{AreApart, IsBasis, IsReducedBy}
use Rattle.gf_ideal_theory.proofs.ListLaws.{each_contained, contained_each}
use Rattle.gf_ideal_theory.proofs.SettledLaws.{default}

-- ---- apart, by indices

-- no mark divides the mark at another index
ApartAt : List MarkedPolynomial → Type 0
ApartAt bs = (i j : ℕ) (d : MarkedPolynomial) → i < length bs → j < length bs → (i ≡ j → ⊥) → NoMultiple (get_or bs i d).head (get_or bs j d).head

at_indices : (bs : List MarkedPolynomial) → AreApart bs → ApartAt bs
unfolding ApartAt
at_indices [] a i j d l m n = absurd (omega arith)
at_indices (b ∷ bs) a zero zero d l m n = absurd (n refl)
at_indices (b ∷ bs) a zero (suc j) d l m n = (contained_each (λ (c : MarkedPolynomial). NoMultiple b.head c.head × NoMultiple c.head b.head) bs a.0
    (get_or bs j d) (j, omega arith, default bs j (get_or bs j d) d (omega arith))).0
at_indices (b ∷ bs) a (suc i) zero d l m n = (contained_each (λ (c : MarkedPolynomial). NoMultiple b.head c.head × NoMultiple c.head b.head) bs a.0
    (get_or bs i d) (i, omega arith, default bs i (get_or bs i d) d (omega arith))).1
at_indices (b ∷ bs) a (suc i) (suc j) d l m n = at_indices bs a.1 i j d (omega arith) (omega arith) (λ e. n (omega arith))

from_indices : (bs : List MarkedPolynomial) → ApartAt bs → AreApart bs
unfolding ApartAt
from_indices [] h = tt
from_indices (b ∷ bs) h = (
  each_contained (λ (c : MarkedPolynomial). NoMultiple b.head c.head × NoMultiple c.head b.head) bs
      (λ c k. (
        subst (λ (x : MarkedPolynomial). NoMultiple b.head x.head) k.2 (h 0 (suc k.0) c (omega arith) (omega (arith, k.1)) (λ e. absurd (omega arith))),
        subst (λ (x : MarkedPolynomial). NoMultiple x.head b.head) k.2 (h (suc k.0) 0 c (omega (arith, k.1)) (omega arith) (λ e. absurd (omega arith))),
      )),
  from_indices bs (λ i j d l m n. h (suc i) (suc j) d (omega arith) (omega arith) (λ e. n (omega arith))),
)

-- ---- one exchange of two indices

-- where the element at i stood before the indices a and b were exchanged
abbrev IsFrom : ℕ → ℕ → ℕ → ℕ → Type 0
IsFrom a b i k = ((i ≡ a) × (k ≡ b)) ⊎ ((i ≡ b) × (k ≡ a)) ⊎ ((i ≡ a → ⊥) × (i ≡ b → ⊥) × (k ≡ i))

one_index : (a b i j k l : ℕ) → IsFrom a b i k → IsFrom a b j l → k ≡ l → i ≡ j
one_index a b i j k l (inl p) (inl q) e = omega (arith, p.0, q.0)
one_index a b i j k l (inl p) (inr (inl q)) e = omega (arith, p.0, p.1, q.0, q.1, e)
one_index a b i j k l (inl p) (inr (inr q)) e = absurd (q.1 (omega (arith, p.1, q.2, e)))
one_index a b i j k l (inr (inl p)) (inl q) e = omega (arith, p.0, p.1, q.0, q.1, e)
one_index a b i j k l (inr (inl p)) (inr (inl q)) e = omega (arith, p.0, q.0)
one_index a b i j k l (inr (inl p)) (inr (inr q)) e = absurd (q.0 (omega (arith, p.1, q.2, e)))
one_index a b i j k l (inr (inr p)) (inl q) e = absurd (p.1 (omega (arith, p.2, q.1, e)))
one_index a b i j k l (inr (inr p)) (inr (inl q)) e = absurd (p.0 (omega (arith, p.2, q.1, e)))
one_index a b i j k l (inr (inr p)) (inr (inr q)) e = omega (arith, p.2, q.2, e)

came_from : (xs ys : List MarkedPolynomial) (a b i : ℕ) (d : MarkedPolynomial) → a < length xs → b < length xs →
    i < length xs → ys ≡ swap xs a b → (k : ℕ) × (k < length xs) × (get_or ys i d ≡ get_or xs k d) × IsFrom a b i k
came_from xs ys a b i d la lb li e = at (swapped_from_swap xs ys a b d la lb e) (cases_eq i a) (cases_eq i b)
  where
    at : Swapped (λ i. get_or xs i d) (λ i. get_or ys i d) a b → (i ≡ a) ⊎ (i ≡ a → ⊥) → (i ≡ b) ⊎ (i ≡ b → ⊥) →
        (k : ℕ) × (k < length xs) × (get_or ys i d ≡ get_or xs k d) × IsFrom a b i k
    at s (inl p) q = (b, lb, subst (λ (j : ℕ). get_or ys j d ≡ get_or xs b d) (sym p) s.0, inl (p, refl))
    at s (inr p) (inl q) = (a, la, subst (λ (j : ℕ). get_or ys j d ≡ get_or xs a d) (sym q) s.1, inr (inl (q, refl)))
    at s (inr p) (inr q) = (i, li, s.2 i p q, inr (inr (p, q, refl)))

apart-swap : (xs : List MarkedPolynomial) (a b : ℕ) → a < length xs → b < length xs → AreApart xs →
    AreApart (swap xs a b)
unfolding ApartAt
apart-swap xs a b la lb h =
    from_indices (swap xs a b) (λ i j d li lj n. at i j d n (came_from xs (swap xs a b) a b i d la lb (omega (arith, length-swap xs a b))
    refl) (came_from xs (swap xs a b) a b j d la lb (omega (arith, length-swap xs a b)) refl))
  where
    at : (i j : ℕ) (d : MarkedPolynomial) → (i ≡ j → ⊥) →
        ((k : ℕ) × (k < length xs) × (get_or (swap xs a b) i d ≡ get_or xs k d) × IsFrom a b i k) →
        ((k : ℕ) × (k < length xs) × (get_or (swap xs a b) j d ≡ get_or xs k d) × IsFrom a b j k) →
        NoMultiple (get_or (swap xs a b) i d).head (get_or (swap xs a b) j d).head
    at i j d n p q =
        subst (λ (x : MarkedPolynomial). NoMultiple x.head (get_or (swap xs a b) j d).head) (sym p.2)
        (subst (λ (x : MarkedPolynomial). NoMultiple (get_or xs p.0 d).head x.head) (sym q.2)
        (at_indices xs h p.0 q.0 d p.1 q.1 (λ e. n (one_index a b i j p.0 q.0 p.3 q.3 e))))

-- ---- arrangements

length-moved : (xs : List MarkedPolynomial) (ms : List (ℕ × ℕ)) → length (apply_swaps xs ms) ≡ length xs
length-moved xs [] = refl
length-moved xs (m ∷ ms) = length-swap (apply_swaps xs ms) m.0 m.1 ∙ length-moved xs ms

apart-moved : (xs : List MarkedPolynomial) (ms : List (ℕ × ℕ)) → SwapsInRange (length xs) ms → AreApart xs →
    AreApart (apply_swaps xs ms)
apart-moved xs [] r h = h
apart-moved xs (m ∷ ms) r h = apart-swap (apply_swaps xs ms) m.0 m.1 (omega (arith, r.0, length-moved xs ms)) (omega (arith, r.1, length-moved xs ms))
    (apart-moved xs ms r.2 h)

-- marks stay apart in any order
pub apart-arranged : (bs cs : List MarkedPolynomial) → IsPermutation bs cs → AreApart bs → AreApart cs
apart-arranged bs cs p h = subst AreApart (sym p.is) (apart-moved bs p.moves p.below h)

-- the members of the one are those of the other
pub members_from : (bs cs : List MarkedPolynomial) → IsPermutation bs cs → (c : MarkedPolynomial) → Contains cs c →
    Contains bs c
members_from bs cs p c k = Contains-permutation cs bs c (IsPermutation-sym bs cs p) k

divisible-arranged : (bs cs : List MarkedPolynomial) (x : Exponents) →
    ((b : MarkedPolynomial) → Contains bs b → Contains cs b) → IsDivisible (Contains bs) x →
    IsDivisible (Contains cs) x
divisible-arranged bs cs x h d = record { member = d.member; contained = h d.member d.contained; rest = d.rest; divides = d.divides }

-- a basis is one in any order
pub basis-arranged : (n : ℕ) (fs : List Terms) (bs cs : List MarkedPolynomial) → IsPermutation bs cs → IsBasis n fs bs →
    IsBasis n fs cs
basis-arranged n fs bs cs p b = record {
  members = λ c k. b.members c (members_from bs cs p c k);
  marked = (b.marked.0, b.marked.1, λ c k. b.marked.2 c (members_from bs cs p c k));
  decides = λ f m i. b.decides f m (λ x q d. i x q (divisible-arranged bs cs x (λ e k. Contains-permutation bs cs e p k) d));
}

-- a reduced basis is one in any order
pub reduced-arranged : (n : ℕ) (fs : List Terms) (below : Exponents → Exponents → Type 0) (Top : Terms → Exponents → Type 0) (bs cs : List MarkedPolynomial) →
    IsPermutation bs cs → IsReducedBy n fs below Top bs → IsReducedBy n fs below Top cs
reduced-arranged n fs below Top bs cs p b = record {
  basis = record {
    members = λ c k. b.basis.members c (members_from bs cs p c k);
    marked = λ c k. b.basis.marked c (members_from bs cs p c k);
    initial = λ f m x t. divisible-arranged bs cs x (λ e k. Contains-permutation bs cs e p k) (b.basis.initial f m x t);
  };
  tails = λ c k x m d. b.tails c (members_from bs cs p c k) x m (divisible-arranged cs bs x (members_from bs cs p) d);
  heads = apart-arranged bs cs p b.heads;
}
