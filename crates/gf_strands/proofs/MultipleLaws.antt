-- Whether exponents are a multiple of a vector apart, as the code tests it: an exact quotient, then entry by entry.
-- To cite: exact, small_factor, apart_more, distance_end, apart_end, not_apart, kept, narrow_entry, apart_found.
use Rattle.std.specs.Prelude.{◌≡◌, ◌≢◌, ◌⊎◌, ℕ, zero, suc, ◌+◌, ◌*◌, ◌<◌, ◌≤◌, ◌^◌, List, [], ◌∷◌, length, get_or, ℤ, pos, ◌+ℤ◌, ◌-ℤ◌, ◌*ℤ◌, unsigned_abs}
use Rattle.std.specs.Prelude.{int_div, int_rem}
use Rattle.std.specs.declared.option.Option.{Option}
use Rattle.std.specs.Option.{is_some}
use Rattle.std.proofs.Common.{true, false, Some, None, IfSome, arith, refl, sym, ap, ◌∙◌, inl, inr, to_z, of_z}
use Rattle.std.proofs.lemmas.Bool.{cases_lt}
use Rattle.std.specs.Int.{w64, w128}
use Rattle.std.proofs.lemmas.Int.{ints, unsigned_abs-mul, quot-rem, rem_below, to_z-of_z, fits_signed_from_abs}
use Rattle.std.proofs.lemmas.Nat.{mul-le}
use Rattle.gf_int_theory.proofs.RingLaws.{dv, dn, ◌⊖◌, ◌⊗◌, same as same_number}
use Rattle.gf_exponents_theory.specs.Exponents.{Exponents, entry}
use Rattle.gf_exponents_theory.proofs.ExponentsLaws.{entry-get_or, entry-past}
use Rattle.gf_ideal_theory.specs.OrderTable.{AreMultipleApart}
use Rattle.gf_strands.specs.Along.{AreSmall}
use Rattle.gf_strands.specs.Strands.{IsDistance}
use Rattle.gf_int_theory.proofs.SignLaws.{abs_positive}
use Rattle.gf_int_theory.proofs.ContentLaws.{abs_zero}

none_left : (m a : ℕ) → m * a < a → m ≡ 0
none_left zero a l = refl
none_left (suc m) a l = absurd (omega arith)

-- the quotient of a multiple
pub exact : (d a k : ℤ) → a ≢ pos 0 → d ≡ k *ℤ a → int_div d a ≡ k
exact d a k n e =
    let r = rem_below d a (abs_positive a n) in
    let q = quot-rem d a in
    let m : (k -ℤ int_div d a) *ℤ a ≡ int_rem d a = rest (int_div d a) (int_rem d a) q in
    let l : unsigned_abs (k -ℤ int_div d a) * unsigned_abs a < unsigned_abs a =
    omega (arith, sym (unsigned_abs-mul (k -ℤ int_div d a) a), ap unsigned_abs m, r) in
    let z : k -ℤ int_div d a ≡ pos 0 = abs_zero (k -ℤ int_div d a) (none_left (unsigned_abs (k -ℤ int_div d a)) (unsigned_abs a) l) in
    omega (arith, ints, z)
  where
    rest : (q r : ℤ) → q *ℤ a +ℤ r ≡ d → (k -ℤ q) *ℤ a ≡ r
    rest q r h = same_number ((dv k ⊖ dv q) ⊗ dv a) (dv k ⊗ dv a ⊖ dv q ⊗ dv a) (omega arith) ∙ omega (arith, ints, h, e)

-- and its size
pub small_factor : (d a k : ℤ) → a ≢ pos 0 → d ≡ k *ℤ a → unsigned_abs k ≤ unsigned_abs d
small_factor d a k n e = omega (
  arith,
  mul-le (unsigned_abs k) 1 (unsigned_abs k) (unsigned_abs a) (omega arith) (abs_positive a n),
  unsigned_abs-mul k a,
  ap unsigned_abs e,
)

-- ---- entry by entry

-- the first i exponents are those of y and k times a
abbrev pub AreApartTo : List ℤ → Exponents → Exponents → ℤ → ℕ → Type 0
AreApartTo a x y k i = (j : ℕ) → j < i → pos (entry x j) ≡ pos (entry y j) +ℤ k *ℤ get_or a j (pos 0)

-- one more
pub apart_more : (a : List ℤ) (x y : Exponents) (k d m : ℤ) (i : ℕ) → AreApartTo a x y k i →
    d ≡ pos (get_or x i 0) -ℤ pos (get_or y i 0) → m ≡ k *ℤ get_or a i (pos 0) → d ≡ m → AreApartTo a x y k (i + 1)
apart_more a x y k d m i h p q e j l = at (cases_lt j i)
  where
    here : pos (entry x i) ≡ pos (entry y i) +ℤ k *ℤ get_or a i (pos 0)
    here = omega (arith, ints, p, q, e, entry-get_or x i, entry-get_or y i)

    at : (j < i) ⊎ (i ≤ j) → pos (entry x j) ≡ pos (entry y j) +ℤ k *ℤ get_or a j (pos 0)
    at (inl s) = h j s
    at (inr s) = let f : i ≡ j = omega arith in ap (λ (z : ℕ). pos (entry x z)) (sym f) ∙ here ∙ ap (λ (z : ℕ). pos (entry y z) +ℤ k *ℤ get_or a z (pos 0)) f

-- past its end a vector is zero
pub past : (a : List ℤ) (i : ℕ) → length a ≤ i → get_or a i (pos 0) ≡ pos 0
past [] i l = refl
past (x ∷ a) zero l = absurd (omega arith)
past (x ∷ a) (suc i) l = past a i (omega arith)

-- all
pub distance_end : (a : List ℤ) (x y : Exponents) (k : ℤ) (i : ℕ) → length x ≡ length a → length y ≡ length a →
    length a ≤ i → AreApartTo a x y k i → (j : ℕ) → pos (entry x j) ≡ pos (entry y j) +ℤ k *ℤ get_or a j (pos 0)
distance_end a x y k i p q l h j = at j (cases_lt j i)
  where
    zero_times : (k : ℤ) → k *ℤ pos 0 ≡ pos 0
    zero_times k = same_number (dv k ⊗ dn 0) (dn 0) (omega arith)

    at : (j : ℕ) → (j < i) ⊎ (i ≤ j) → pos (entry x j) ≡ pos (entry y j) +ℤ k *ℤ get_or a j (pos 0)
    at j (inl s) = h j s
    at j (inr s) = omega (arith, ints, entry-past x j (omega arith), entry-past y j (omega arith), ap (λ z. k *ℤ z) (past a j (omega arith)), zero_times k)

pub apart_end : (a : List ℤ) (x y : Exponents) (k : ℤ) (i : ℕ) → length x ≡ length a → length y ≡ length a →
    length a ≤ i → AreApartTo a x y k i → AreMultipleApart a x y
apart_end a x y k i p q l h = (k, distance_end a x y k i p q l h)

-- the multiplier of monomials that are apart is the exact quotient at the pivot, so each entry is as it says
pub not_apart : (a : List ℤ) (x y : Exponents) (k c : ℤ) (d m : ℤ) (p i : ℕ) →
    c ≡ pos (get_or x p 0) -ℤ pos (get_or y p 0) → ((j : ℤ) → c ≡ j *ℤ get_or a p (pos 0) → k ≡ j) →
    d ≡ pos (get_or x i 0) -ℤ pos (get_or y i 0) → m ≡ k *ℤ get_or a i (pos 0) → (d ≡ m → ⊥) → AreMultipleApart a x y → ⊥
not_apart a x y k c d m p i e f g h n r =
    let q : k ≡ r.0 = f r.0 (omega (arith, ints, e, r.1 p, entry-get_or x p, entry-get_or y p)) in
    n (omega (arith, ints, g, r.1 i, entry-get_or x i, entry-get_or y i, h, ap (λ z. z *ℤ get_or a i (pos 0)) q))

-- ---- what the code keeps of a number

-- a number within the range is kept
pub kept : (z : ℤ) (n : ℕ) → unsigned_abs z ≤ n → n < 2 ^ 63 → to_z w64 (of_z w64 z) ≡ z
kept z n h l = to_z-of_z w64 z (fits_signed_from_abs w64 z (omega (arith, h, l)))

-- an entry of a vector with small ones
small_entry : (a : List ℤ) (i : ℕ) → AreSmall a → i < length a → unsigned_abs (get_or a i (pos 0)) < 2 ^ 31
small_entry a i h l = h i (pos 0) l

-- is kept
kept_entry : (a : List ℤ) (i : ℕ) → AreSmall a → i < length a → to_z w64 (of_z w64 (get_or a i (pos 0))) ≡ get_or a i (pos 0)
kept_entry a i h l = kept (get_or a i (pos 0)) (2 ^ 31) (omega (arith, small_entry a i h l)) (omega arith)

-- as it is narrowed
pub narrow_entry : (a : List ℤ) (i : ℕ) (z : ℤ) → AreSmall a → i < length a → z ≡ to_z w128 (of_z w128 (get_or a i (pos 0))) →
    to_z w64 (of_z w64 z) ≡ get_or a i (pos 0)
narrow_entry a i z h l e = ap (λ (y : ℤ). to_z w64 (of_z w64 y)) (e ∙ whole) ∙ kept_entry a i h l
  where
    whole : to_z w128 (of_z w128 (get_or a i (pos 0))) ≡ get_or a i (pos 0)
    whole = to_z-of_z w128 (get_or a i (pos 0)) (fits_signed_from_abs w128 (get_or a i (pos 0)) (omega (arith, small_entry a i h l)))

-- a multiple that was found
pub apart_found : (a : List ℤ) (x y : Exponents) (o : Option ℤ) → IfSome o (IsDistance a x y) → is_some o ≡ true → AreMultipleApart a x y
apart_found a x y (Some k) h e = (k, h)
apart_found a x y None h e = absurd (let z : false ≡ true = e in cc)
