-- Identities between whole numbers, each in one line.
-- A whole number is a difference of two naturals, sums and products of differences are differences,
-- and natural numbers are multiplied out by `omega`. To show an identity: `each` once for each variable,
-- then `simp naturals (diff-eq _ _ _ _ (omega arith))`.
-- More laws: proofs/RingLaws.antt and proofs/SignLaws.antt.
use Rattle.std.proofs.Common.{ℤ, pos, negsuc, ◌+ℤ◌, ◌*ℤ◌, ◌-ℤ◌, ◌≡◌, ℕ, ◌+◌, ◌*◌, ◌<◌, arith, ap, subst}
use lib.IntN.{neg_ℤ}
use Rattle.std.proofs.Math.Nat.{eq_of_mul-eq-mul_right}
use borrow.Author.Differences.{up, down}
use Rattle.std.proofs.lemmas.Int.{ints}

-- the whole number m - n
unfoldable pub diff : ℕ → ℕ → ℤ
diff m n = pos m -ℤ pos n

-- each whole number is such a difference
pub diff-is : (a : ℤ) → diff (up a) (down a) ≡ a
unfolding diff
diff-is (pos n) = omega (arith, ints)
diff-is (negsuc n) = omega (arith, ints)

-- the sum of two differences
pub diff-+ : (m n p q : ℕ) → diff m n +ℤ diff p q ≡ diff (m + p) (n + q)
unfolding diff
diff-+ m n p q = omega (arith, ints)

-- the negative of a difference
pub diff-neg : (m n : ℕ) → neg_ℤ (diff m n) ≡ diff n m
unfolding diff
diff-neg m n = omega (arith, ints)

-- differences are equal where the sums crosswise are
pub diff-eq : (m n p q : ℕ) → m + q ≡ p + n → diff m n ≡ diff p q
unfolding diff
diff-eq m n p q h = omega (arith, ints)

mul_of : (a b : ℤ) (m n p q : ℕ) → up a + n ≡ m + down a → up b + q ≡ p + down b →
    up a * up b + down a * down b + (m * q + n * p) ≡ (m * p + n * q) + (up a * down b + down a * up b)
mul_of a b m n p q h k = omega (arith, h, k, ap (λ x. up b * x) h, ap (λ x. down b * x) h, ap (λ x. m * x) k, ap (λ x. n * x) k)

-- the product of two differences
pub diff-* : (m n p q : ℕ) → diff m n *ℤ diff p q ≡ diff (m * p + n * q) (m * q + n * p)
unfolding diff
diff-* m n p q =
    let h : up (pos m -ℤ pos n) + n ≡ m + down (pos m -ℤ pos n) = omega (arith, ints) in
    let k : up (pos p -ℤ pos q) + q ≡ p + down (pos p -ℤ pos q) = omega (arith, ints) in
    let e = mul_of (pos m -ℤ pos n) (pos p -ℤ pos q) m n p q h k in
    omega (arith, ints, e)

-- a natural number as a difference
pub pos-diff : (n : ℕ) → pos n ≡ diff n 0
unfolding diff
pos-diff n = omega (arith, ints)

-- sums, negatives and products of differences, written as one difference
pub ruleset diffs = (diff-+, diff-neg, diff-*)

-- the same, with natural numbers among them
pub ruleset naturals = (diffs, pos-diff)

-- what holds of each difference holds of each whole number
pub each : (P : ℤ → Type 0) → ((m n : ℕ) → P (diff m n)) → (a : ℤ) → P a
each P h a = subst P (diff-is a) (h (up a) (down a))

-- ---- first uses

-- a positive factor is cancelled
pub cancel_factor : (k : ℕ) (a b : ℤ) → 0 < k → a *ℤ pos k ≡ b *ℤ pos k → a ≡ b
cancel_factor k a b h e =
    let l : (up a + down b) * k ≡ (up b + down a) * k = omega (arith, ints, e) in
    let m : up a + down b ≡ up b + down a = eq_of_mul-eq-mul_right k h _ _ l in
    omega (arith, ints, m)

-- products are associative
pub *ℤ_assoc : (a b c : ℤ) → (a *ℤ b) *ℤ c ≡ a *ℤ (b *ℤ c)
*ℤ_assoc = each _ (λ a a'. each _ (λ b b'. each _ (λ c c'. simp diffs (diff-eq _ _ _ _ (omega arith)))))

-- the two factors in the middle change indices
pub swap_middle : (a b c d : ℤ) → (a *ℤ b) *ℤ (c *ℤ d) ≡ (a *ℤ c) *ℤ (b *ℤ d)
swap_middle = each _ (λ a a'. each _ (λ b b'. each _ (λ c c'. each _ (λ d d'. simp diffs (diff-eq _ _ _ _ (omega arith))))))
