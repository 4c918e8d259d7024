-- How many multipliers of the recursion aren't zero, how large the scale is, and how often a vector is taken.
use Rattle.std.proofs.Common.{◌≡◌, ◌≢◌, ℕ, zero, suc, ◌+◌, ◌*◌, ◌<◌, ◌≤◌, ◌/◌, List, [], ◌∷◌, ◌++◌, length, ℤ, pos, negsuc, ◌*ℤ◌, neg_ℤ, ◌<ℤ◌, arith, refl}
use Rattle.std.proofs.Common.{take, unsigned_abs, int_div}
use Rattle.std.specs.List.{AllByRecursion}
use Rattle.std.proofs.lemmas.Int.{ints}
use Rattle.std.proofs.Math.IntN.{zero-*ℤ, *ℤ-zero}
use Rattle.std.proofs.Math.Nat.{mul-le-mul, mul-le-mul_left, mul-le-mul_right, div-le_of_le-mul}
use Rattle.gf_int_theory.specs.Content.{scaled}
use Rattle.gf_int_theory.proofs.ContentLaws.{quotient-smaller}
use Rattle.gf_vec.specs.Vector.{dot, zeros, entry_at}
use Rattle.gf_gordan.specs.Elimination.{scale_part, scale_from, taken_by}
use Rattle.gf_gordan.proofs.SizeLaws.{UpTo, up_none, up_cons, up_tail, sum_up, product_up}
use Rattle.gf_gordan.proofs.ReducedSizes.{IsSmallContent}

-- ---- powers

abbrev pub power : ℕ → ℕ → ℕ
power m zero = 1
power m (suc n) = m * power m n

pub power_one : (m n : ℕ) → 1 ≤ m → 1 ≤ power m n
power_one m zero h = omega arith
power_one m (suc n) h = let k : 1 * 1 ≤ m * power m n = mul-le-mul h (power_one m n h) in omega (arith, k)

-- ---- how many entries aren't zero

abbrev pub counted : ℤ → ℕ
counted (pos zero) = 0
counted (pos (suc n)) = 1
counted (negsuc n) = 1

abbrev pub used : List ℤ → ℕ
used [] = 0
used (x ∷ xs) = counted x + used xs

pub counted_one : (x : ℤ) → counted x ≤ 1
counted_one (pos zero) = omega arith
counted_one (pos (suc n)) = omega arith
counted_one (negsuc n) = omega arith

pub counted_some : (x : ℤ) → x ≢ pos 0 → counted x ≡ 1
counted_some (pos zero) n = absurd (n refl)
counted_some (pos (suc k)) n = refl
counted_some (negsuc k) n = refl

counted_zero : (x : ℤ) → x ≡ pos 0 → counted x ≡ 0
counted_zero x e = rw e refl

counted_left : (x k : ℤ) → counted (x *ℤ k) ≤ counted x
counted_left (pos zero) k = let e = counted_zero (pos 0 *ℤ k) (zero-*ℤ k) in omega (arith, e)
counted_left (pos (suc n)) k = counted_one (pos (suc n) *ℤ k)
counted_left (negsuc n) k = counted_one (negsuc n *ℤ k)

counted_right : (k x : ℤ) → counted (k *ℤ x) ≤ counted x
counted_right k (pos zero) = let e = counted_zero (k *ℤ pos 0) (*ℤ-zero k) in omega (arith, e)
counted_right k (pos (suc n)) = counted_one (k *ℤ pos (suc n))
counted_right k (negsuc n) = counted_one (k *ℤ negsuc n)

counted_kept : (c x : ℤ) → pos 0 <ℤ c → counted x ≤ counted (c *ℤ x)
counted_kept c (pos zero) h = omega arith
counted_kept (pos zero) (pos (suc n)) h = absurd (omega (arith, ints))
counted_kept (pos (suc c)) (pos (suc n)) h = let e = counted_some (pos (suc c) *ℤ pos (suc n)) (λ e. absurd (omega (arith, ints, e))) in omega (arith, e)
counted_kept (negsuc c) (pos (suc n)) h = absurd (omega (arith, ints))
counted_kept (pos zero) (negsuc n) h = absurd (omega (arith, ints))
counted_kept (pos (suc c)) (negsuc n) h = let e = counted_some (pos (suc c) *ℤ negsuc n) (λ e. absurd (omega (arith, ints, e))) in omega (arith, e)
counted_kept (negsuc c) (negsuc n) h = absurd (omega (arith, ints))

pub used-append : (xs ys : List ℤ) → used (xs ++ ys) ≡ used xs + used ys
used-append [] ys = omega arith
used-append (x ∷ xs) ys = let e = used-append xs ys in omega (arith, e)

pub used-zeros : (k : ℕ) → used (zeros k) ≡ 0
used-zeros zero = refl
used-zeros (suc k) = let e = used-zeros k in omega (arith, e)

pub used-times : (k : ℤ) (xs : List ℤ) → used (scaled k xs) ≤ used xs
used-times k [] = omega arith
used-times k (x ∷ xs) = let e = used-times k xs in let f = counted_right k x in omega (arith, e, f)

pub used-kept : (c : ℤ) (xs : List ℤ) → pos 0 <ℤ c → used xs ≤ used (scaled c xs)
used-kept c [] h = omega arith
used-kept c (x ∷ xs) h = let e = used-kept c xs h in let f = counted_kept c x h in omega (arith, e, f)

pub used-taken : (scale : ℤ) (cs ms : List ℤ) → used (taken_by scale cs ms) ≤ used ms
used-taken scale [] ms = omega arith
used-taken scale (c ∷ cs) [] = omega arith
used-taken scale (c ∷ cs) (m ∷ ms) = let e = used-taken scale cs ms in let f = counted_left m (int_div scale c) in omega (arith, e, f)

-- those before an index, and the one there
pub used-take : (i : ℕ) (xs : List ℤ) → used (take i xs) + counted (entry_at xs i) ≤ used xs
used-take zero [] = omega arith
used-take zero (x ∷ xs) = omega arith
used-take (suc i) [] = omega arith
used-take (suc i) (x ∷ xs) = let e = used-take i xs in omega (arith, e)

some_used : (xs : List ℤ) (i : ℕ) → entry_at xs i ≢ pos 0 → 1 ≤ used xs
some_used xs i n = let e = used-take i xs in let f = counted_some (entry_at xs i) n in omega (arith, e, f)

-- ---- dot products with few entries that aren't zero

pub counted_product : (x y : ℤ) (a b : ℕ) → unsigned_abs x ≤ a → unsigned_abs y ≤ b → unsigned_abs (x *ℤ y) ≤ counted x * (a * b)
counted_product (pos zero) y a b h k = rw (zero-*ℤ y) (omega arith)
counted_product (pos (suc n)) y a b h k = let p = product_up (pos (suc n)) y a b h k in omega (arith, p)
counted_product (negsuc n) y a b h k = let p = product_up (negsuc n) y a b h k in omega (arith, p)

split_count : (c u p : ℕ) → c * p + u * p ≡ (c + u) * p
split_count c u p = omega arith

pub dot_used : (a b : ℕ) (xs ys : List ℤ) → UpTo a xs → UpTo b ys → unsigned_abs (dot xs ys) ≤ used xs * (a * b)
dot_used a b [] ys u v = omega arith
dot_used a b (x ∷ xs) [] u v = omega arith
dot_used a b (x ∷ xs) (y ∷ ys) u v =
    let p = counted_product x y a b (u.at 0) (v.at 0) in
    let q = dot_used a b xs ys (up_tail a x xs u) (up_tail b y ys v) in
    let s = sum_up (x *ℤ y) (dot xs ys) (counted x * (a * b)) (used xs * (a * b)) p q in
    omega (arith, s, split_count (counted x) (used xs) (a * b))

-- ---- the scale

pub joined_up : (s c : ℤ) (m : ℕ) → unsigned_abs c ≤ m → unsigned_abs (scale_part s c *ℤ c) ≤ unsigned_abs s * m
joined_up s c m h = product_up (scale_part s c) c (unsigned_abs s) m (quotient-smaller _ s) h

same_size : (s : ℤ) (p : ℕ) → 1 ≤ p → unsigned_abs s ≤ unsigned_abs s * p
same_size s p h = let k : unsigned_abs s * 1 ≤ unsigned_abs s * p = mul-le-mul_left (unsigned_abs s) h in omega (arith, k)

next_size : (t s m p x : ℕ) → x ≤ t * p → t ≤ s * m → x ≤ s * (m * p)
next_size t s m p x h k = let l : t * p ≤ s * m * p = mul-le-mul_right p k in omega (arith, l, h)

-- it is at most the product of the contents whose multipliers aren't zero
pub scale_up : (m n : ℕ) (s : ℤ) (cs ms : List ℤ) → 1 ≤ m → AllByRecursion (IsSmallContent m) cs → used ms ≤ n →
    unsigned_abs (scale_from s cs ms) ≤ unsigned_abs s * power m n
scale_up m n s [] ms h k u = same_size s (power m n) (power_one m n h)
scale_up m n s (c ∷ cs) [] h k u = same_size s (power m n) (power_one m n h)
scale_up m n s (c ∷ cs) (pos zero ∷ ms) h k u = scale_up m n s cs ms h k.1 (omega arith)
scale_up m zero s (c ∷ cs) (pos (suc x) ∷ ms) h k u = absurd (omega arith)
scale_up m (suc n) s (c ∷ cs) (pos (suc x) ∷ ms) h k u =
    next_size (unsigned_abs (scale_part s c *ℤ c)) (unsigned_abs s) m (power m n) _ (scale_up m n (scale_part s c *ℤ c) cs ms h k.1 (omega arith))
    (joined_up s c m k.0.1)
scale_up m zero s (c ∷ cs) (negsuc x ∷ ms) h k u = absurd (omega arith)
scale_up m (suc n) s (c ∷ cs) (negsuc x ∷ ms) h k u =
    next_size (unsigned_abs (scale_part s c *ℤ c)) (unsigned_abs s) m (power m n) _ (scale_up m n (scale_part s c *ℤ c) cs ms h k.1 (omega arith))
    (joined_up s c m k.0.1)

skip_size : (t s m c p x : ℕ) → x ≤ t * (c * p) → t ≤ s * m → x ≤ s * (c * (m * p))
skip_size t s m c p x h k = let l : t * (c * p) ≤ s * m * (c * p) = mul-le-mul_right (c * p) k in omega (arith, l, h)

scale_here : (m n : ℕ) (s c : ℤ) (cs ms : List ℤ) → 1 ≤ m → AllByRecursion (IsSmallContent m) cs → used ms ≤ n →
    unsigned_abs (scale_from (scale_part s c *ℤ c) cs ms) ≤ unsigned_abs s * (unsigned_abs c * power m n)
scale_here m n s c cs ms h k u =
    next_size (unsigned_abs (scale_part s c *ℤ c)) (unsigned_abs s) (unsigned_abs c) (power m n) _ (scale_up m n (scale_part s c *ℤ c) cs ms h k u)
    (joined_up s c (unsigned_abs c) (omega arith))

-- it is at most so many times each of these contents
pub scale_at : (m n : ℕ) (s : ℤ) (cs ms : List ℤ) (i : ℕ) → 1 ≤ m → AllByRecursion (IsSmallContent m) cs → length cs ≡ length ms → i < length ms →
    entry_at ms i ≢ pos 0 → used ms ≤ suc n → unsigned_abs (scale_from s cs ms) ≤ unsigned_abs s * (unsigned_abs (entry_at cs i) * power m n)
scale_at m n s [] [] i h k e l z u = absurd (omega arith)
scale_at m n s [] (x ∷ ms) i h k e l z u = absurd (omega arith)
scale_at m n s (c ∷ cs) [] i h k e l z u = absurd (omega arith)
scale_at m n s (c ∷ cs) (pos zero ∷ ms) zero h k e l z u = absurd (z refl)
scale_at m n s (c ∷ cs) (pos zero ∷ ms) (suc i) h k e l z u = scale_at m n s cs ms i h k.1 (omega arith) (omega arith) z (omega arith)
scale_at m n s (c ∷ cs) (pos (suc x) ∷ ms) zero h k e l z u = scale_here m n s c cs ms h k.1 (omega arith)
scale_at m zero s (c ∷ cs) (pos (suc x) ∷ ms) (suc i) h k e l z u = absurd (let o = some_used ms i z in omega (arith, o))
scale_at m (suc n) s (c ∷ cs) (pos (suc x) ∷ ms) (suc i) h k e l z u =
    skip_size (unsigned_abs (scale_part s c *ℤ c)) (unsigned_abs s) m (unsigned_abs (entry_at cs i)) (power m n) _
    (scale_at m n (scale_part s c *ℤ c) cs ms i h k.1 (omega arith) (omega arith) z (omega arith)) (joined_up s c m k.0.1)
scale_at m n s (c ∷ cs) (negsuc x ∷ ms) zero h k e l z u = scale_here m n s c cs ms h k.1 (omega arith)
scale_at m zero s (c ∷ cs) (negsuc x ∷ ms) (suc i) h k e l z u = absurd (let o = some_used ms i z in omega (arith, o))
scale_at m (suc n) s (c ∷ cs) (negsuc x ∷ ms) (suc i) h k e l z u =
    skip_size (unsigned_abs (scale_part s c *ℤ c)) (unsigned_abs s) m (unsigned_abs (entry_at cs i)) (power m n) _
    (scale_at m n (scale_part s c *ℤ c) cs ms i h k.1 (omega arith) (omega arith) z (omega arith)) (joined_up s c m k.0.1)

-- ---- the takings

neg_size : (m : ℕ) → unsigned_abs (neg_ℤ (pos m)) ≡ m
neg_size zero = refl
neg_size (suc m) = refl

pub lacking_up : (x c : ℤ) (q : ℕ) → pos 0 <ℤ c → unsigned_abs x ≤ unsigned_abs c * q → unsigned_abs (int_div x c) ≤ q
lacking_up (pos a) (pos d) q h k = div-le_of_le-mul d k
lacking_up (negsuc a) (pos d) q h k = let l : suc a / d ≤ q = div-le_of_le-mul d k in omega (arith, neg_size (suc a / d), l)
lacking_up x (negsuc d) q h k = absurd (omega (arith, ints))

taking_one : (x k : ℤ) (l q : ℕ) → unsigned_abs x ≤ l → (x ≢ pos 0 → unsigned_abs k ≤ q) → unsigned_abs (x *ℤ k) ≤ l * q
taking_one (pos zero) k l q h f = rw (zero-*ℤ k) (omega arith)
taking_one (pos (suc n)) k l q h f = product_up (pos (suc n)) k l q h (f (λ e. absurd (omega (arith, ints, e))))
taking_one (negsuc n) k l q h f = product_up (negsuc n) k l q h (f (λ e. absurd (omega (arith, ints, e))))

content_at : (m : ℕ) (cs : List ℤ) (i : ℕ) → i < length cs → AllByRecursion (IsSmallContent m) cs → IsSmallContent m (entry_at cs i)
content_at m [] i l k = absurd (omega arith)
content_at m (c ∷ cs) zero l k = k.0
content_at m (c ∷ cs) (suc i) l k = content_at m cs i (omega arith) k.1

one_time : (x : ℕ) → unsigned_abs (pos 1) * x ≡ x
one_time x = omega arith

-- how often one vector is taken
pub taking_up : (m n l : ℕ) (cs ms : List ℤ) (i : ℕ) → 1 ≤ m → AllByRecursion (IsSmallContent m) cs → length cs ≡ length ms → used ms ≤ suc n → UpTo l ms →
    i < length ms → unsigned_abs (entry_at ms i *ℤ int_div (scale_from (pos 1) cs ms) (entry_at cs i)) ≤ l * power m n
taking_up m n l cs ms i h k e u v b =
    taking_one (entry_at ms i) (int_div (scale_from (pos 1) cs ms) (entry_at cs i)) l (power m n) (v.at i)
    (λ z. lacking_up (scale_from (pos 1) cs ms) (entry_at cs i) (power m n) (content_at m cs i (omega arith) k).0
    (let s = scale_at m n (pos 1) cs ms i h k e b z u in omega (arith, s, one_time (unsigned_abs (entry_at cs i) * power m n))))

taken_from : (scale : ℤ) (q : ℕ) (cs ms : List ℤ) → length cs ≡ length ms →
    ((i : ℕ) → i < length ms → unsigned_abs (entry_at ms i *ℤ int_div scale (entry_at cs i)) ≤ q) → UpTo q (taken_by scale cs ms)
taken_from scale q [] ms e f = up_none q
taken_from scale q (c ∷ cs) [] e f = up_none q
taken_from scale q (c ∷ cs) (m ∷ ms) e f = up_cons q (m *ℤ int_div scale c) (taken_by scale cs ms) (f 0 (omega arith))
    (taken_from scale q cs ms (omega arith) (λ i l. f (suc i) (omega arith)))

pub taken_up : (m n l : ℕ) (cs ms : List ℤ) → 1 ≤ m → AllByRecursion (IsSmallContent m) cs → length cs ≡ length ms → used ms ≤ suc n → UpTo l ms →
    UpTo (l * power m n) (taken_by (scale_from (pos 1) cs ms) cs ms)
taken_up m n l cs ms h k e u v = taken_from (scale_from (pos 1) cs ms) (l * power m n) cs ms e (λ i b. taking_up m n l cs ms i h k e u v b)
