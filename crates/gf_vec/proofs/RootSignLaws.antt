-- The sum of the entries, one entry further, and how wide it is.
use Rattle.std.proofs.Common.{◌≡◌, ℕ, ◌+◌, ◌*◌, ◌^◌, ◌<◌, ◌≤◌, List, length, get_or, drop, All, ℤ, pos, ◌+ℤ◌, unsigned_abs, arith, refl}
use Rattle.std.proofs.lemmas.Int.{ints}
use Rattle.std.proofs.lemmas.List.{drop_more}
use Rattle.gf_vec.specs.RootSign.{total_of}

total-drop : (xs : List ℤ) (i : ℕ) → i < length xs → total_of (drop i xs) ≡ get_or xs i (pos 0) +ℤ total_of (drop (i + 1) xs)
total-drop xs i h = rw (drop_more xs i (pos 0)) refl

-- the entry at i is added to the sum of those before it
pub added : (xs : List ℤ) (i : ℕ) (sum whole : ℤ) → i < length xs → All (λ x. unsigned_abs x ≤ 2 ^ 64) xs →
    (sum +ℤ total_of (drop i xs) ≡ whole) × (unsigned_abs sum ≤ i * 2 ^ 64) →
    (sum +ℤ get_or xs i (pos 0) +ℤ total_of (drop (i + 1) xs) ≡ whole) × (unsigned_abs (sum +ℤ get_or xs i (pos 0)) ≤ (i + 1) * 2 ^ 64)
added xs i sum whole h small k = (omega (arith, ints, k.0, total-drop xs i h), omega (arith, ints, k.1, small i (pos 0) h))
