-- Exponents as slices, and what a loop over the variables has done.
-- To cite: entry-get_or, taken_is, same_or_not, entry-take_more, entry-take_last, entry-ones, degree-ones, entry-raised, degree-raised, limit-raised,
-- plus-minus, length-plus, length-minus, length-join, divides_by_entries, entries_by_divides.
use Rattle.std.specs.Prelude.{◌≡◌, ◌≢◌, ℕ, zero, suc, Bool, IsTrue, ◌+◌, ◌*◌, ◌<◌, ◌≤◌, ◌^◌, ◌⊎◌, List, [], ◌∷◌, length, take, replicate, All}
use Rattle.std.proofs.Common.{arith, refl, sym, ap, subst, ◌∙◌, inl, inr, get_or, add-one}
use Rattle.std.proofs.Math.ListN.{set}
use Rattle.std.proofs.lemmas.Bool.{cases_lt}
use Rattle.std.proofs.lemmas.List.{get_or-set_same, get_or-set_other, length-set, take_all}
use Rattle.std.proofs.lemmas.List.Elements.{All-get_or, All-from_get_or}
use Rattle.std.proofs.lemmas.Grind.{get_or-set_at}
use Rattle.gf_exponents_theory.specs.Exponents.{Exponents, entry, plus, minus, join, degree, Divides}
use Rattle.gf_poly.specs.declared.TheConstants.{ROOM}
use Rattle.gf_poly.specs.Monomial.{IsMonomial, ProductFits}
pub use Rattle.gf_exponents_theory.proofs.ExponentsLaws.{entry-get_or, same_lists}
use Rattle.gf_exponents_theory.proofs.WeightLaws.{degree-plus}
use Rattle.gf_exponents_theory.proofs.ExponentsLaws.{entry-past, entry-plus, entry-minus, entries_same, same_by_entries}

-- ---- entries
-- the first n entries of all are x
pub taken_is : (n : ℕ) (all x : List ℕ) → length x ≡ n → n ≤ length all → ((i : ℕ) → i < n → get_or all i 0 ≡ entry x i) → take n all ≡ x
taken_is zero all [] e l h = refl
taken_is zero all (a ∷ x) e l h = absurd (omega arith)
taken_is (suc n) all [] e l h = absurd (omega arith)
taken_is (suc n) [] (a ∷ x) e l h = absurd (omega arith)
taken_is (suc n) (b ∷ all) (a ∷ x) e l h =
    ap (λ c. c ∷ take n all) (h 0 (omega arith)) ∙ ap (λ z. a ∷ z) (taken_is n all x (omega arith) (omega arith) (λ i k. h (suc i) (omega arith)))

pub same_or_not : (k i : ℕ) → (k ≡ i) ⊎ (k ≢ i)
same_or_not k i = grind arith

-- the entries of the first i + 1 exponents: those of the first i, and one more
pub entry-take_more : (x : List ℕ) (i k : ℕ) → k ≢ i → entry (take (i + 1) x) k ≡ entry (take i x) k
entry-take_more x i k d = ap (λ n. entry (take n x) k) (add-one i) ∙ at x i k d
  where
    at : (x : List ℕ) (i k : ℕ) → k ≢ i → entry (take (suc i) x) k ≡ entry (take i x) k
    at [] zero k d = refl
    at [] (suc i) k d = refl
    at (a ∷ x) zero zero d = absurd (d refl)
    at (a ∷ x) zero (suc k) d = refl
    at (a ∷ x) (suc i) zero d = refl
    at (a ∷ x) (suc i) (suc k) d = at x i k (λ q. d (ap suc q))

pub entry-take_last : (x : List ℕ) (i : ℕ) → entry (take (i + 1) x) i ≡ entry x i
entry-take_last x i = ap (λ n. entry (take n x) i) (add-one i) ∙ at x i
  where
    at : (x : List ℕ) (i : ℕ) → entry (take (suc i) x) i ≡ entry x i
    at [] i = refl
    at (a ∷ x) zero = refl
    at (a ∷ x) (suc i) = at x i

-- ---- one index set
pub entry-set_other : (x : Exponents) (i k a : ℕ) → k ≢ i → entry (set x i a) k ≡ entry x k
entry-set_other x i k a other = sym (entry-get_or (set x i a) k) ∙ get_or-set_other x i k a 0 other ∙ entry-get_or x k

-- ---- lengths
pub length-plus : (x y : Exponents) → length x ≡ length y → length (plus x y) ≡ length x
length-plus [] [] h = refl
length-plus [] (b ∷ y) h = absurd (omega arith)
length-plus (a ∷ x) [] h = refl
length-plus (a ∷ x) (b ∷ y) h = ap suc (length-plus x y (omega arith))

pub length-minus : (x y : Exponents) → length x ≡ length y → length (minus x y) ≡ length x
length-minus [] y h = refl
length-minus (a ∷ x) [] h = refl
length-minus (a ∷ x) (b ∷ y) h = ap suc (length-minus x y (omega arith))

pub length-join : (x y : Exponents) → length x ≡ length y → length (join x y) ≡ length x
length-join [] [] h = refl
length-join [] (b ∷ y) h = absurd (omega arith)
length-join (a ∷ x) [] h = refl
length-join (a ∷ x) (b ∷ y) h = ap suc (length-join x y (omega arith))

-- ---- divisibility
pub divides_by_entries : (x y : Exponents) → ((i : ℕ) → entry x i ≤ entry y i) → Divides x y
divides_by_entries x y h = record {
  rest = minus y x;
  product = same_by_entries y (plus (minus y x) x) (λ i. omega (arith, h i, entry-plus (minus y x) x i, entry-minus y x i));
}

pub entries_by_divides : (x y : Exponents) → Divides x y → (i : ℕ) → entry x i ≤ entry y i
entries_by_divides x y d i = omega (arith, entries_same y (plus d.rest x) d.product i, entry-plus d.rest x i)

-- a quotient times the divisor
pub plus-minus : (x y : Exponents) → length x ≡ length y → Divides y x → plus (minus x y) y ≡ x
plus-minus x y e d =
    same_lists (plus (minus x y) y) x (length-plus (minus x y) y (length-minus x y e ∙ e) ∙ length-minus x y e)
    (λ i. omega (arith, entries_by_divides y x d i, entry-plus (minus x y) y i, entry-minus x y i))

-- ---- what a loop over the variables has done
-- the first i indices of all hold f of the two exponents
pub record AreEntries (f : ℕ → ℕ → ℕ) (x y : Exponents) (all : List ℕ) (i : ℕ) : Type 0 where
  pub room : length all ≡ ROOM
  pub at : (k : ℕ) → k < i → get_or all k 0 ≡ f (entry x k) (entry y k)

pub AreEntries-more : (f : ℕ → ℕ → ℕ) (x y : Exponents) (all : List ℕ) (i v : ℕ) → i < ROOM → v ≡ f (entry x i) (entry y i) → AreEntries f x y all i →
    AreEntries f x y (set all i v) (i + 1)
AreEntries-more f x y all i v l e h = record { room = length-set all i v ∙ h.room; at = λ k b. index k b (cases_lt k i) }
  where
    index : (k : ℕ) → k < i + 1 → (k < i) ⊎ (i ≤ k) → get_or (set all i v) k 0 ≡ f (entry x k) (entry y k)
    index k b (inl m) = get_or-set_other all i k v 0 (λ q. absurd (omega arith)) ∙ h.at k m
    index k b (inr m) =
        let q : k ≡ i = omega arith in
        get_or-set_at all i k v 0 q (omega (arith, h.room)) ∙ e ∙ ap (λ j. f (entry x j) (entry y j)) (sym q)

-- all indices are done
pub AreEntries-end : (f : ℕ → ℕ → ℕ) (x y z : Exponents) (all : List ℕ) (i : ℕ) → length x ≤ i → length x ≤ ROOM → length z ≡ length x →
    ((k : ℕ) → entry z k ≡ f (entry x k) (entry y k)) → AreEntries f x y all i → take (length x) all ≡ z
AreEntries-end f x y z all i l r e g h = taken_is (length x) all z e (omega (arith, h.room)) (λ k b. h.at k (omega arith) ∙ sym (g k))

-- all ROOM indices are done
pub AreEntries-all : (f : ℕ → ℕ → ℕ) (x y z : Exponents) (all : List ℕ) (i : ℕ) → length x ≡ ROOM → ROOM ≤ i → length z ≡ ROOM →
    ((k : ℕ) → entry z k ≡ f (entry x k) (entry y k)) → AreEntries f x y all i → all ≡ z
AreEntries-all f x y z all i e l r g h = sym (take_all ROOM all (omega (arith, h.room))) ∙ ap (λ n. take n all) (sym e) ∙ AreEntries-end f x y z all i
    (omega (arith, e, l)) (omega (arith, e)) (r ∙ sym e) g h

-- the first i indices of all hold the exponents of x, and zeros stand behind them
pub record ArePlacedUpTo (x : Exponents) (all : List ℕ) (i : ℕ) : Type 0 where
  pub room : length all ≡ ROOM
  pub at : (k : ℕ) → k < i → entry all k ≡ entry x k
  pub behind : (k : ℕ) → i ≤ k → entry all k ≡ 0

pub ArePlacedUpTo-more : (x : Exponents) (all : List ℕ) (i v : ℕ) → i < ROOM → v ≡ entry x i → ArePlacedUpTo x all i → ArePlacedUpTo x (set all i v) (i + 1)
ArePlacedUpTo-more x all i v l e h = record {
  room = length-set all i v ∙ h.room;
  at = λ k b. index k b (cases_lt k i);
  behind = λ k b. entry-set_other all i k v (λ q. absurd (omega arith)) ∙ h.behind k (omega arith);
}
  where
    index : (k : ℕ) → k < i + 1 → (k < i) ⊎ (i ≤ k) → entry (set all i v) k ≡ entry x k
    index k b (inl m) = entry-set_other all i k v (λ q. absurd (omega arith)) ∙ h.at k m
    index k b (inr m) =
        let q : k ≡ i = omega arith in
        sym (entry-get_or (set all i v) k) ∙ get_or-set_at all i k v 0 q (omega (arith, h.room)) ∙ e ∙ ap (λ j. entry x j) (sym q)

-- so far the sums of the exponents are below the limit
pub record FitsBelow (x y : Exponents) (i : ℕ) : Type 0 where
  pub at : (k : ℕ) → k < i → entry x k + entry y k < 2 ^ 31

pub FitsBelow-more : (x y : Exponents) (i : ℕ) → entry x i + entry y i < 2 ^ 31 → FitsBelow x y i → FitsBelow x y (i + 1)
FitsBelow-more x y i l h = record { at = λ k b. index k b (cases_lt k i) }
  where
    index : (k : ℕ) → k < i + 1 → (k < i) ⊎ (i ≤ k) → entry x k + entry y k < 2 ^ 31
    index k b (inl m) = h.at k m
    index k b (inr m) = let q : i ≡ k = omega arith in subst (λ (j : ℕ). entry x j + entry y j < 2 ^ 31) q l

-- whether the sums so far are below the limit, as a flag says
pub record IsFitting (x y : Exponents) (fits : Bool) (i : ℕ) : Type 0 where
  pub so : IsTrue fits → FitsBelow x y i
  pub all : ProductFits x y → IsTrue fits

pub IsFitting-more : (x y : Exponents) (i sum : ℕ) (old new : Bool) → sum ≡ entry x i + entry y i → (IsTrue new → IsTrue old × (sum < 2 ^ 31)) →
    (IsTrue old → sum < 2 ^ 31 → IsTrue new) → IsFitting x y old i → IsFitting x y new (i + 1)
IsFitting-more x y i sum old new e g k h = record {
  so = λ t. FitsBelow-more x y i (omega (arith, e, (g t).1)) (h.so (g t).0);
  all = λ p. k (h.all p) (omega (arith, e, p.at i));
}

pub FitsBelow-end : (x y : Exponents) (i : ℕ) → length x ≡ length y → length x ≤ i → FitsBelow x y i → ProductFits x y
FitsBelow-end x y i e l h = record { at = λ k. index k (cases_lt k i) }
  where
    index : (k : ℕ) → (k < i) ⊎ (i ≤ k) → entry x k + entry y k < 2 ^ 31
    index k (inl m) = h.at k m
    index k (inr m) = omega (arith, entry-past x k (omega arith), entry-past y k (omega arith))

-- so far the exponents of x are at most those of y
pub record IsBelowSoFar (x y : Exponents) (i : ℕ) : Type 0 where
  pub at : (k : ℕ) → k < i → entry x k ≤ entry y k

pub IsBelowSoFar-more : (x y : Exponents) (i : ℕ) → get_or x i 0 ≤ get_or y i 0 → IsBelowSoFar x y i → IsBelowSoFar x y (i + 1)
IsBelowSoFar-more x y i l h = record { at = λ k b. index k b (cases_lt k i) }
  where
    here : entry x i ≤ entry y i
    here = omega (arith, entry-get_or x i, entry-get_or y i)

    index : (k : ℕ) → k < i + 1 → (k < i) ⊎ (i ≤ k) → entry x k ≤ entry y k
    index k b (inl m) = h.at k m
    index k b (inr m) = let q : i ≡ k = omega arith in subst (λ (j : ℕ). entry x j ≤ entry y j) q here

pub IsBelowSoFar-end : (x y : Exponents) (i : ℕ) → length x ≤ i → IsBelowSoFar x y i → Divides x y
IsBelowSoFar-end x y i l h = divides_by_entries x y (λ k. index k (cases_lt k i))
  where
    index : (k : ℕ) → (k < i) ⊎ (i ≤ k) → entry x k ≤ entry y k
    index k (inl m) = h.at k m
    index k (inr m) = omega (arith, entry-past x k (omega arith))

pub not_divides_at : (x y : Exponents) (i : ℕ) → get_or y i 0 < get_or x i 0 → ¬ (Divides x y)
not_divides_at x y i l d = absurd (omega (arith, entries_by_divides x y d i, entry-get_or x i, entry-get_or y i))

-- ---- the monomial 1, and one exponent raised
pub entry-ones : (n k : ℕ) → entry (replicate n 0) k ≡ 0
entry-ones zero k = refl
entry-ones (suc n) zero = refl
entry-ones (suc n) (suc k) = entry-ones n k

pub degree-ones : (n : ℕ) → degree (replicate n 0) ≡ 0
degree-ones zero = refl
degree-ones (suc n) = omega (arith, degree-ones n)

pub entry-raised : (x : Exponents) (i by : ℕ) → i < length x → entry (set x i (get_or x i 0 + by)) i ≡ entry x i + by
entry-raised x i by l = omega (arith, entry-get_or (set x i (get_or x i 0 + by)) i, get_or-set_same x i (get_or x i 0 + by) 0 l, entry-get_or x i)

pub degree-raised : (x : Exponents) (i by : ℕ) → i < length x → degree (set x i (get_or x i 0 + by)) ≡ degree x + by
degree-raised [] i by l = absurd (omega arith)
degree-raised (a ∷ x) zero by l = omega arith
degree-raised (a ∷ x) (suc i) by l = omega (arith, degree-raised x i by (omega arith))

-- ---- limits
pub limit_by_entries : (x : List ℕ) → ((i : ℕ) → entry x i < 2 ^ 31) → All (λ k. k < 2 ^ 31) x
limit_by_entries x h = All-from_get_or (λ k. k < 2 ^ 31) x 0 (λ i l. omega (arith, h i, entry-get_or x i))

pub entry-limit : (x : List ℕ) → All (λ k. k < 2 ^ 31) x → (i : ℕ) → entry x i < 2 ^ 31
entry-limit x h i = elim (cases_lt i (length x)) [
  | inl l ↦ omega (arith, All-get_or (λ k. k < 2 ^ 31) x i 0 l h, entry-get_or x i)
  | inr g ↦ omega (arith, entry-past x i g)
]

pub limit-raised : (x : Exponents) (i by : ℕ) → i < length x → get_or x i 0 + by < 2 ^ 31 → All (λ k. k < 2 ^ 31) x →
    All (λ k. k < 2 ^ 31) (set x i (get_or x i 0 + by))
limit-raised x i by l less h = limit_by_entries (set x i (get_or x i 0 + by)) (λ k. index k (same_or_not k i))
  where
    index : (k : ℕ) → (k ≡ i) ⊎ (k ≢ i) → entry (set x i (get_or x i 0 + by)) k < 2 ^ 31
    index k (inl q) = omega (arith, ap (λ j. entry (set x i (get_or x i 0 + by)) j) q, entry-raised x i by l, entry-get_or x i)
    index k (inr d) = omega (arith, entry-set_other x i k (get_or x i 0 + by) d, entry-limit x h k)

-- ---- the total degree, entry by entry
pub degree-take : (x : List ℕ) (i : ℕ) → i < length x → degree (take (i + 1) x) ≡ degree (take i x) + get_or x i 0
degree-take x i l = ap (λ j. degree (take j x)) (add-one i) ∙ at x i l
  where
    at : (x : List ℕ) (i : ℕ) → i < length x → degree (take (suc i) x) ≡ degree (take i x) + get_or x i 0
    at [] i l = absurd (omega arith)
    at (a ∷ x) zero l = omega arith
    at (a ∷ x) (suc i) l = omega (arith, at x i (omega arith))

-- where each exponent is within the limit
pub degree-limit : (x : List ℕ) → All (λ k. k < 2 ^ 31) x → degree x ≤ length x * 2 ^ 31
degree-limit [] h = omega arith
degree-limit (a ∷ x) h = omega (arith, h 0 0 (omega arith), degree-limit x (λ k d l. h (suc k) d (omega arith)))

-- the degree of a product that fits is no wide number
pub degrees-fit : (x y : Exponents) → IsMonomial x → IsMonomial y → degree x + degree y < 2 ^ 64
degrees-fit x y h k = omega (arith, degree-limit x h.limit, degree-limit y k.limit, h.room, k.room)

pub degree-minus : (x y : Exponents) → length x ≡ length y → Divides y x → degree (minus x y) + degree y ≡ degree x
degree-minus x y e d = sym (degree-plus (minus x y) y) ∙ ap degree (plus-minus x y e d)
