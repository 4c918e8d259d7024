-- Sums of multiples one entry and one vector further, and what the checks of multipliers say together.
use Rattle.std.proofs.Common.{◌≡◌, ℕ, zero, suc, ◌+◌, ◌<◌, ◌≤◌, List, [], ◌∷◌, ◌++◌, length, ℤ, pos, negsuc, ◌+ℤ◌, ◌*ℤ◌, ◌≤ℤ◌, arith, sym, refl, ap, ap₂, ◌∙◌}
use Rattle.std.proofs.Common.{subst, take, drop, get_or, set, All, inl, inr, append_assoc}
use Rattle.std.specs.List.{AllByRecursion}
use Rattle.std.proofs.lemmas.Int.{ints}
use Rattle.std.proofs.lemmas.List.{take_more, drop_more, drop_all, length-take, get_or_at, set_at}
use Rattle.std.proofs.lemmas.List.Elements.{recursion_from_All, All-from_recursion, All-drop}
use Rattle.gf_int_theory.specs.Content.{IsContent, scaled}
use Rattle.gf_vec.specs.Vector.{vector_sum, zeros, combined, SomePositive}
use Rattle.gf_vec.proofs.VectorLaws.{length-times, length-plus, length-combined, plus_assoc, zeros-plus, plus-zeros, zero-times}
use Rattle.gf_gordan.specs.Alternative.{AreRows, IsFarkas}

-- ---- a multiple that is added

added-push : (m : ℤ) (ss xs : List ℤ) (s x : ℤ) → length ss ≡ length xs → vector_sum (ss ++ s ∷ []) (scaled m (xs ++ x ∷ [])) ≡ vector_sum ss (scaled m xs) ++
    (s +ℤ m *ℤ x) ∷ []
added-push m [] [] s x e = refl
added-push m [] (y ∷ xs) s x e = absurd (omega arith)
added-push m (z ∷ ss) [] s x e = absurd (omega arith)
added-push m (z ∷ ss) (y ∷ xs) s x e = ap (λ l. (z +ℤ m *ℤ y) ∷ l) (added-push m ss xs s x (omega arith))

-- the entries before i have so many times xs added, the others are as they were
pub record Added (m : ℤ) (xs start now : List ℤ) (i : ℕ) : Type 0 where
  pub items : now ≡ vector_sum (take i start) (scaled m (take i xs)) ++ drop i start

front_len : (m : ℤ) (start xs : List ℤ) (i : ℕ) → i < length start → length start ≡ length xs → length (vector_sum (take i start) (scaled m (take i xs))) ≡ i
front_len m start xs i h e =
    length-plus (take i start) (scaled m (take i xs)) (omega (arith, length-take i start, length-take i xs, length-times m (take i xs))) ∙ omega (
      arith,
      length-take i start,
    )

-- the entry at i is as it was
pub Added-entry : (m : ℤ) (xs start now : List ℤ) (i : ℕ) → i < length start → length start ≡ length xs → Added m xs start now i →
    get_or now i (pos 0) ≡ get_or start i (pos 0)
Added-entry m xs start now i h e a =
    ap (λ l. get_or l i (pos 0)) (a.items ∙ ap (λ l. vector_sum (take i start) (scaled m (take i xs)) ++ l) (drop_more start i (pos 0) h))
    ∙ get_or_at (vector_sum (take i start) (scaled m (take i xs))) (get_or start i (pos 0)) (drop (i + 1) start) (pos 0) i (front_len m start xs i h e)

pub Added-more : (m : ℤ) (xs start now next : List ℤ) (i : ℕ) (z : ℤ) → i < length start → length start ≡ length xs →
    z ≡ get_or start i (pos 0) +ℤ m *ℤ get_or xs i (pos 0) → next ≡ set now i z → Added m xs start now i → Added m xs start next (i + 1)
Added-more m xs start now next i z h e ez en a =
    let k : i < length xs = omega arith in
    let front = vector_sum (take i start) (scaled m (take i xs)) in
    let more : vector_sum (take (i + 1) start) (scaled m (take (i + 1) xs)) ≡ front ++ z ∷ [] =
    rw (take_more start i (pos 0) h, take_more xs i (pos 0) k, ez) (added-push m (take i start) (take i xs) _ _
    (omega (arith, length-take i start, length-take i xs))) in
    record {
      items = en ∙ ap (λ l. set l i z) (a.items ∙ ap (λ l. front ++ l) (drop_more start i (pos 0) h)) ∙ set_at front (get_or start i (pos 0))
          (drop (i + 1) start) z i (front_len m start xs i h e)
          ∙ sym (append_assoc front (z ∷ []) (drop (i + 1) start)) ∙ ap (λ l. l ++ drop (i + 1) start) (sym more);
    }

-- ---- combinations that are added

-- what is left to add gives what the whole gives
pub record Combining (ms : List ℤ) (ts : List (List ℤ)) (start now : List ℤ) (i : ℕ) : Type 0 where
  pub len : length now ≡ length start
  pub whole : vector_sum now (combined (length start) (drop i ms) (drop i ts)) ≡ vector_sum start (combined (length start) ms ts)

combined_more : (n : ℕ) (ms : List ℤ) (ts : List (List ℤ)) (i : ℕ) → i < length ms → length ms ≡ length ts →
    combined n (drop i ms) (drop i ts) ≡ vector_sum (scaled (get_or ms i (pos 0)) (get_or ts i [])) (combined n (drop (i + 1) ms) (drop (i + 1) ts))
combined_more n ms ts i h e = let k : i < length ts = omega arith in rw (drop_more ms i (pos 0), drop_more ts i []) refl

left_len : (n : ℕ) (ms : List ℤ) (ts : List (List ℤ)) (i : ℕ) → AreRows n ts → length (combined n (drop i ms) (drop i ts)) ≡ n
left_len n ms ts i w = length-combined n (drop i ms) (drop i ts) (recursion_from_All (λ t. length t ≡ n) (drop i ts) (All-drop (λ t. length t ≡ n) i ts w))

-- one vector further
pub Combining-more : (ms : List ℤ) (ts : List (List ℤ)) (start now next : List ℤ) (i : ℕ) (m : ℤ) (t : List ℤ) → i < length ms → length ms ≡ length ts →
    AreRows (length start) ts → m ≡ get_or ms i (pos 0) → t ≡ get_or ts i [] → next ≡ vector_sum now (scaled m t) → Combining ms ts start now i →
    Combining ms ts start next (i + 1)
Combining-more ms ts start now next i m t h e w em et en c =
    let n = length start in
    let lt : length t ≡ n = ap length et ∙ w i [] (omega arith) in
    record {
      len = ap length en ∙ length-plus now (scaled m t) (omega (arith, c.len, lt, length-times m t)) ∙ c.len;
      whole = ap (λ l. vector_sum l (combined n (drop (i + 1) ms) (drop (i + 1) ts))) en ∙ plus_assoc now (scaled m t) _ ∙ ap (λ l. vector_sum now l)
          (ap₂ (λ a b. vector_sum (scaled a b) (combined n (drop (i + 1) ms) (drop (i + 1) ts))) em et ∙ sym (combined_more n ms ts i h e)) ∙ c.whole;
    }

-- and past a vector that isn't taken
pub Combining-skip : (ms : List ℤ) (ts : List (List ℤ)) (start now : List ℤ) (i : ℕ) → i < length ms → length ms ≡ length ts → AreRows (length start) ts →
    get_or ms i (pos 0) ≡ pos 0 → Combining ms ts start now i → Combining ms ts start now (i + 1)
Combining-skip ms ts start now i h e w z c =
    let n = length start in
    let t = get_or ts i [] in
    let lt : length t ≡ n = w i [] (omega arith) in
    let none : vector_sum (scaled (get_or ms i (pos 0)) t) (combined n (drop (i + 1) ms) (drop (i + 1) ts)) ≡ combined n (drop (i + 1) ms) (drop (i + 1) ts) =
    ap (λ a. vector_sum (scaled a t) (combined n (drop (i + 1) ms) (drop (i + 1) ts))) z ∙
    ap (λ l. vector_sum l (combined n (drop (i + 1) ms) (drop (i + 1) ts))) (zero-times t ∙ ap zeros lt) ∙ zeros-plus n _ (left_len n ms ts (i + 1) w) in
    record { len = c.len; whole = ap (λ l. vector_sum now l) (sym (combined_more n ms ts i h e ∙ none)) ∙ c.whole }

pub Combining-all : (ms : List ℤ) (ts : List (List ℤ)) (start now : List ℤ) (i : ℕ) → length ms ≤ i → length ms ≡ length ts → Combining ms ts start now i →
    now ≡ vector_sum start (combined (length start) ms ts)
Combining-all ms ts start now i h e c =
    sym (plus-zeros (length start) now c.len) ∙ ap₂ (λ a b. vector_sum now (combined (length start) a b)) (sym (drop_all i ms h))
    (sym (drop_all i ts (omega arith))) ∙ c.whole

-- ---- the checks together

pub zeros_of : (xs : List ℤ) → AllByRecursion (λ x. x ≡ pos 0) xs → xs ≡ zeros (length xs)
zeros_of [] h = refl
zeros_of (x ∷ xs) h = ap₂ ◌∷◌ h.0 (zeros_of xs h.1)

pub all_zeros : (n : ℕ) → AllByRecursion (λ x. x ≡ pos 0) (zeros n)
all_zeros zero = tt
all_zeros (suc n) = (refl, all_zeros n)

pub some_positive : (xs : List ℤ) → AllByRecursion (λ x. pos 0 ≤ℤ x) xs → (AllByRecursion (λ x. x ≡ pos 0) xs → ⊥) → SomePositive xs
some_positive [] h k = k tt
some_positive (pos zero ∷ xs) h k = inr (some_positive xs h.1 (λ a. k (refl, a)))
some_positive (pos (suc x) ∷ xs) h k = inl (omega (arith, ints))
some_positive (negsuc x ∷ xs) h k = absurd (let a = h.0 in omega (arith, ints))

pub positive_not_zero : (xs : List ℤ) → SomePositive xs → AllByRecursion (λ x. x ≡ pos 0) xs → ⊥
positive_not_zero [] s z = s
positive_not_zero (x ∷ xs) (inl p) z = let e = z.0 in omega (arith, ints)
positive_not_zero (x ∷ xs) (inr s) z = positive_not_zero xs s z.1

-- what the checks of multipliers say together
pub IsFarkas-checked : (n : ℕ) (rows equations : List (List ℤ)) (ms es : List ℤ) → length ms ≡ length rows → length es ≡ length equations →
    All (λ m. pos 0 ≤ℤ m) ms → (All (λ m. m ≡ pos 0) ms → ⊥) → IsContent (ms ++ es) 1 → vector_sum (combined n ms rows) (combined n es equations) ≡ zeros n →
    IsFarkas n rows equations ms es
IsFarkas-checked n rows equations ms es lm le h k d z = record {
  rows_len = lm;
  equations_len = le;
  not_negative = h;
  not_all_zero = some_positive ms (recursion_from_All (λ m. pos 0 ≤ℤ m) ms h) (λ a. k (All-from_recursion (λ m. m ≡ pos 0) ms a));
  zero_sum = z;
  divided = d;
}

-- multipliers that refute are not all zero
pub IsFarkas-not_zero : (n : ℕ) (rows equations : List (List ℤ)) (ms es : List ℤ) → IsFarkas n rows equations ms es → All (λ m. m ≡ pos 0) ms → ⊥
IsFarkas-not_zero n rows equations ms es f z = positive_not_zero ms f.not_all_zero (recursion_from_All (λ m. m ≡ pos 0) ms z)

-- the sum at the end of both loops
pub both_sums : (n : ℕ) (start first second a b : List ℤ) → start ≡ zeros n → length a ≡ n → first ≡ vector_sum start a → second ≡ vector_sum first b →
    second ≡ vector_sum a b
both_sums n start first second a b es la e f = f ∙ ap (λ l. vector_sum l b) (e ∙ ap (λ l. vector_sum l a) es ∙ zeros-plus n a la)

-- a list of n zeros
pub zeros-all : (n : ℕ) (xs : List ℤ) → length xs ≡ n → All (λ x. x ≡ pos 0) xs → xs ≡ zeros n
zeros-all n xs e h = zeros_of xs (recursion_from_All (λ x. x ≡ pos 0) xs h) ∙ ap zeros e

pub all-zeros : (n : ℕ) (xs : List ℤ) → xs ≡ zeros n → All (λ x. x ≡ pos 0) xs
all-zeros n xs e = All-from_recursion (λ x. x ≡ pos 0) xs (subst (AllByRecursion (λ x. x ≡ pos 0)) (sym e) (all_zeros n))
