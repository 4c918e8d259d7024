-- Entries of vectors: of multiples, sums and parts; cancelled factors; what makes a vector zero.
use Rattle.std.proofs.Common.{◌≡◌, ◌≢◌, ℕ, zero, suc, ◌<◌, List, [], ◌∷◌, length, ℤ, pos, ◌+ℤ◌, ◌*ℤ◌, neg_ℤ, ◌<ℤ◌, arith, refl, ap, ap₂, ◌∙◌, drop, min}
use Rattle.std.specs.Int.{int_signum}
use Rattle.std.proofs.lemmas.Int.{ints}
use Rattle.gf_int_theory.specs.Content.{scaled}
use Rattle.gf_int_theory.proofs.RingLaws.{same, dv, dneg, ◌⊗◌, ◌⊕◌}
use Rattle.gf_int_theory.proofs.SignLaws.{sign_of, negative, none, positive, zero-cancel}
use Rattle.gf_vec.specs.Vector.{vector_sum, zeros, entry_at}

pub entry_times : (k : ℤ) (xs : List ℤ) (i : ℕ) → entry_at (scaled k xs) i ≡ k *ℤ entry_at xs i
entry_times k [] i = omega (arith, ints)
entry_times k (x ∷ xs) zero = refl
entry_times k (x ∷ xs) (suc i) = entry_times k xs i

pub entry_plus : (xs ys : List ℤ) (i : ℕ) → length xs ≡ length ys → entry_at (vector_sum xs ys) i ≡ entry_at xs i +ℤ entry_at ys i
entry_plus [] [] i e = omega (arith, ints)
entry_plus [] (y ∷ ys) i e = absurd (omega arith)
entry_plus (x ∷ xs) [] i e = absurd (omega arith)
entry_plus (x ∷ xs) (y ∷ ys) zero e = refl
entry_plus (x ∷ xs) (y ∷ ys) (suc i) e = entry_plus xs ys i (omega arith)

pub drop_times : (m : ℕ) (k : ℤ) (xs : List ℤ) → drop m (scaled k xs) ≡ scaled k (drop m xs)
drop_times zero k xs = refl
drop_times (suc m) k [] = refl
drop_times (suc m) k (x ∷ xs) = drop_times m k xs

pub drop_plus : (m : ℕ) (xs ys : List ℤ) → length xs ≡ length ys → drop m (vector_sum xs ys) ≡ vector_sum (drop m xs) (drop m ys)
drop_plus zero xs ys e = refl
drop_plus (suc m) [] [] e = refl
drop_plus (suc m) [] (y ∷ ys) e = absurd (omega arith)
drop_plus (suc m) (x ∷ xs) [] e = absurd (omega arith)
drop_plus (suc m) (x ∷ xs) (y ∷ ys) e = drop_plus m xs ys (omega arith)

pub min_one : (n : ℕ) → min (suc n) 1 ≡ 1
min_one n = omega arith

-- the sign of a positive number
pub signum_up : (n : ℕ) → int_signum (pos (suc n)) ≡ pos 1
signum_up n = ap pos (min_one n)

-- a factor that isn't zero is cancelled
pub cancel : (c x : ℤ) → c ≢ pos 0 → c *ℤ x ≡ pos 0 → x ≡ pos 0
cancel c x n e = elim (sign_of c) [
  | positive g ↦ zero-cancel c x g e
  | none g ↦ absurd (n g)
  | negative g ↦ zero-cancel (neg_ℤ c) x (omega (arith, ints)) (same (dneg (dv c) ⊗ dv x) (dneg (dv c ⊗ dv x)) (omega arith) ∙ ap neg_ℤ e)
]

-- a positive factor is cancelled on both sides
pub same_by : (c x y : ℤ) → pos 0 <ℤ c → c *ℤ x ≡ c *ℤ y → x ≡ y
same_by c x y h e =
    let z : x +ℤ neg_ℤ y ≡ pos 0 = zero-cancel c (x +ℤ neg_ℤ y) h (same (dv c ⊗ (dv x ⊕ dneg (dv y))) (dv c ⊗ dv x ⊕ dneg (dv c ⊗ dv y)) (omega arith) ∙
    ap (λ z. z +ℤ neg_ℤ (c *ℤ y)) e ∙ omega (arith, ints)) in
    omega (arith, ints)

-- a vector whose entries are zero is the zero vector
pub all_zero : (n : ℕ) (x : List ℤ) → length x ≡ n → ((i : ℕ) → i < n → entry_at x i ≡ pos 0) → x ≡ zeros n
all_zero zero [] l f = refl
all_zero zero (y ∷ x) l f = absurd (omega arith)
all_zero (suc n) [] l f = absurd (omega arith)
all_zero (suc n) (y ∷ x) l f = ap₂ ◌∷◌ (f 0 (omega arith)) (all_zero n x (omega arith) (λ i h. f (suc i) (omega arith)))
