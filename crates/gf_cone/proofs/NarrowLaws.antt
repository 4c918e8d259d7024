-- A dot product, one entry further, and the size of its partial sums.
use Rattle.std.proofs.Common.{◌≡◌, ℕ, zero, suc, ◌+◌, ◌*◌, ◌<◌, ◌≤◌, ◌^◌, List, length, get_or, drop, ℤ, pos, ◌+ℤ◌, ◌*ℤ◌, unsigned_abs, arith, sym, ap, ◌∙◌}
use Rattle.std.proofs.lemmas.Int.{ints, unsigned_abs-mul}
use Rattle.std.proofs.Math.IntN.{+ℤ_assoc}
use Rattle.gf_vec.specs.Vector.{dot}
use Rattle.gf_vec.proofs.DotSteps.{split-dot}

-- the product of the entries at i is added to the sum of those before it
pub dot_more : (xs ys : List ℤ) (i : ℕ) (sum product next : ℤ) → i < length xs → length xs ≡ length ys →
    product ≡ get_or xs i (pos 0) *ℤ get_or ys i (pos 0) → next ≡ sum +ℤ product → sum +ℤ dot (drop i xs) (drop i ys) ≡ dot xs ys →
    next +ℤ dot (drop (i + 1) xs) (drop (i + 1) ys) ≡ dot xs ys
dot_more xs ys i sum product next h e p n k =
    let rest = dot (drop (i + 1) xs) (drop (i + 1) ys) in
    ap (λ z. z +ℤ rest) n ∙ +ℤ_assoc sum product rest ∙ ap (λ z. sum +ℤ z) (ap (λ z. z +ℤ rest) p ∙ sym (split-dot xs ys i h e)) ∙ k

-- a product of greater numbers is greater
pub grown : (a b c d : ℕ) → a ≤ c → b ≤ d → a * b ≤ c * d
grown zero b c d l m = omega arith
grown (suc a) b zero d l m = absurd (omega (arith, l))
grown (suc a) b (suc c) d l m = (let r : a * b ≤ c * d = grown a b c d (omega (arith, l)) m in omega (arith, r, m))

-- the product of numbers below 2^31 and up to 2^26
pub product_short : (x y : ℤ) → unsigned_abs x < 2 ^ 31 → unsigned_abs y ≤ 2 ^ 26 → unsigned_abs (x *ℤ y) ≤ 2 ^ 57
product_short x y l m = (let g : unsigned_abs x * unsigned_abs y ≤ (2 ^ 31) * (2 ^ 26) = grown (unsigned_abs x) (unsigned_abs y) (2 ^ 31) (2 ^ 26)
    (omega (arith, l)) m in omega (arith, g, unsigned_abs-mul x y))

pub short_fits : (z : ℤ) → unsigned_abs z ≤ 2 ^ 57 → unsigned_abs z < 2 ^ 63
short_fits z h = omega (arith, h)

-- at most 32 of them
pub sum_short : (i : ℕ) (sum z : ℤ) → unsigned_abs sum ≤ i * 2 ^ 57 → unsigned_abs z ≤ 2 ^ 57 → unsigned_abs (sum +ℤ z) ≤ (i + 1) * 2 ^ 57
sum_short i sum z h k = omega (arith, ints, h, k)

pub sum_short_fits : (i n : ℕ) (z : ℤ) → i < n → n ≤ 32 → unsigned_abs z ≤ (i + 1) * 2 ^ 57 → unsigned_abs z < 2 ^ 63
sum_short_fits i n z l m h = omega (arith, l, m, h)
