-- How large the entries and contents of the system by a vector are.
use Rattle.std.proofs.Common.{◌≡◌, ◌≢◌, ℕ, zero, suc, ◌+◌, ◌*◌, ◌≤◌, List, [], ◌∷◌, length, ℤ, pos, negsuc, neg_ℤ, ◌<ℤ◌, arith, sym, refl, subst, unsigned_abs}
use Rattle.std.proofs.Common.{inl, inr, ◌⊎◌, remove}
use Rattle.std.specs.Int.{int_signum, ◌∣◌}
use Rattle.std.specs.List.{AllByRecursion}
use Rattle.std.proofs.lemmas.Int.{ints}
use Rattle.std.proofs.lemmas.Nat.Gcd.{dvd-zero, le_of_dvd}
use Rattle.std.proofs.Math.Nat.{eq-zero_of_zero-dvd, mul-le-mul, dvd-mul_right}
use Rattle.gf_int_theory.specs.Content.{scaled, DividesAll, AllZero, IsContent, IsPrimitive}
use Rattle.gf_vec.specs.Vector.{entry_at}
use Rattle.gf_vec.specs.Primitive.{IsDivided}
use Rattle.gf_vec.proofs.PrimitiveLaws.{primitive_of}
use Rattle.gf_gordan.specs.Elimination.{IsPivot, size_at, signed_at, reduced_by, IsSystemBy, column}
use Rattle.gf_gordan.proofs.PointLaws.{HaveWidth, HaveWidth-below}
use Rattle.gf_gordan.proofs.SizeLaws.{UpTo, up_none, up_cons, up_times, up_sum, up_remove, up_divided, neg_up, product_up, signum_up}
use Rattle.gf_int_theory.proofs.SignLaws.{abs_positive}

-- what bounds the entries before the division
abbrev pub twice : ℕ → ℕ
twice b = b * b + b * b

-- what bounds the entries of a system with n columns that is made of one with entries of at most b: a vector of one
-- entry divided by its content is 1, 0 or -1
abbrev pub below_bound : ℕ → ℕ → ℕ
below_bound zero b = 1
below_bound (suc zero) b = 1
below_bound (suc (suc n)) b = twice b

pub one_below : (n b : ℕ) → 1 ≤ b → 1 ≤ below_bound n b
one_below zero b h = omega arith
one_below (suc zero) b h = omega arith
one_below (suc (suc n)) b h = let k : 1 * 1 ≤ b * b = mul-le-mul h h in omega (arith, k)

-- ---- a reduced vector

pub size_up : (b : ℕ) (r : List ℤ) (j : ℕ) → UpTo b r → unsigned_abs (size_at r j) ≤ b
size_up b r j u = let k = u.at j in omega (arith, k)

pub signed_up : (b : ℕ) (r : List ℤ) (j : ℕ) (t : List ℤ) → UpTo b t → unsigned_abs (signed_at r j t) ≤ b
signed_up b r j t u = let k = product_up (int_signum (entry_at r j)) (entry_at t j) 1 b (signum_up (entry_at r j)) (u.at j) in omega (arith, k)

pub reduced_up : (b : ℕ) (r : List ℤ) (j : ℕ) (t : List ℤ) → UpTo b r → UpTo b t → UpTo (twice b) (reduced_by r j t)
reduced_up b r j t u v =
    up_sum (b * b) (b * b) (scaled (size_at r j) (remove t j)) (scaled (neg_ℤ (signed_at r j t)) (remove r j))
    (up_times (size_at r j) b b (remove t j) (size_up b r j u) (up_remove b t j v))
    (up_times (neg_ℤ (signed_at r j t)) b b (remove r j) (neg_up (signed_at r j t) b (signed_up b r j t v)) (up_remove b r j u))

-- ---- its content

pub record Somewhere (xs : List ℤ) : Type 0 where
  pub index : ℕ
  pub not_zero : entry_at xs index ≢ pos 0

zero_or_somewhere : (xs : List ℤ) → AllZero xs ⊎ Somewhere xs
zero_or_somewhere [] = inl tt
zero_or_somewhere (pos zero ∷ xs) = elim (zero_or_somewhere xs) [ inl z ↦ inl (refl, z) | inr s ↦ inr (record { index = suc s.index; not_zero = s.not_zero }) ]
zero_or_somewhere (pos (suc n) ∷ xs) = inr (record { index = 0; not_zero = λ e. omega (arith, ints, e) })
zero_or_somewhere (negsuc n ∷ xs) = inr (record { index = 0; not_zero = λ e. omega (arith, ints, e) })

zero_divides : (xs : List ℤ) → AllZero xs → DividesAll 0 xs
zero_divides [] z = tt
zero_divides (x ∷ xs) z = (subst (λ y. 0 ∣ unsigned_abs y) (sym z.0) (dvd-zero 0), zero_divides xs z.1)

content_of_zeros : (xs : List ℤ) (c : ℕ) → AllZero xs → IsContent xs c → c ≤ 1
content_of_zeros xs c z h = at h.greatest
  where
    at : ((d : ℕ) → DividesAll d xs → d ∣ c) ⊎ (AllZero xs × (c ≡ 1)) → c ≤ 1
    at (inl f) = let e : c ≡ 0 = eq-zero_of_zero-dvd (f 0 (zero_divides xs z)) in omega (arith, e)
    at (inr k) = omega (arith, k.1)

divides_at : (d : ℕ) (xs : List ℤ) (i : ℕ) → DividesAll d xs → d ∣ unsigned_abs (entry_at xs i)
divides_at d [] i h = dvd-zero d
divides_at d (x ∷ xs) zero h = h.0
divides_at d (x ∷ xs) (suc i) h = divides_at d xs i h.1

-- the content of a vector is at most the bound of its entries
pub content_up : (b : ℕ) (xs : List ℤ) (c : ℕ) → 1 ≤ b → IsContent xs c → UpTo b xs → c ≤ b
content_up b xs c p h u = elim (zero_or_somewhere xs) [
  | inl z ↦ (let k = content_of_zeros xs c z h in omega arith)
  | inr s ↦ (let k = le_of_dvd (abs_positive (entry_at xs s.index) s.not_zero) (divides_at c xs s.index h.divides) in let l = u.at s.index in omega arith)
]

-- a primitive vector of at most one entry
pub single_up : (xs : List ℤ) → length xs ≤ 1 → IsPrimitive xs → UpTo 1 xs
single_up [] l p = up_none 1
single_up (x ∷ []) l p = up_cons 1 x [] (at (p (unsigned_abs x) (own, tt))) (up_none 1)
  where
    own : unsigned_abs x ∣ unsigned_abs x
    own = subst (λ n. unsigned_abs x ∣ n) (omega arith) (dvd-mul_right (unsigned_abs x) 1)

    at : (unsigned_abs x ≡ 1) ⊎ AllZero (x ∷ []) → unsigned_abs x ≤ 1
    at (inl e) = omega (arith, e)
    at (inr z) = rw z.0 (omega arith)
single_up (x ∷ (y ∷ xs)) l p = absurd (omega arith)

-- ---- the system

-- vectors of n entries of at most b
pub record Sized (n b : ℕ) (rows : List (List ℤ)) : Type 0 where
  pub widths : HaveWidth n rows
  pub entries : AllByRecursion (UpTo b) rows

below_up : (n b : ℕ) (w u : List ℤ) (c : ℤ) → length u ≡ n → IsDivided w c u → UpTo (twice b) w → UpTo (below_bound n b) u
below_up zero b w u c l d k = single_up u (omega arith) (primitive_of w u (c, d))
below_up (suc zero) b w u c l d k = single_up u (omega arith) (primitive_of w u (c, d))
below_up (suc (suc n)) b w u c l d k = up_divided (twice b) w u c d k

entries_below : (n b : ℕ) (r : List ℤ) (j : ℕ) (rows : List (List ℤ)) (cs : List ℤ) (below : List (List ℤ)) → UpTo b r → AllByRecursion (UpTo b) rows →
    HaveWidth n below → IsSystemBy r j rows cs below → AllByRecursion (UpTo (below_bound n b)) below
entries_below n b r j [] [] [] u k w s = tt
entries_below n b r j [] [] (d ∷ bs) u k w s = absurd s
entries_below n b r j [] (c ∷ cs) below u k w s = absurd s
entries_below n b r j (t ∷ ts) [] below u k w s = absurd s
entries_below n b r j (t ∷ ts) (c ∷ cs) [] u k w s = absurd s
entries_below n b r j (t ∷ ts) (c ∷ cs) (d ∷ bs) u k w s =
    (below_up n b (reduced_by r j t) d c w.0 s.0 (reduced_up b r j t u k.0), entries_below n b r j ts cs bs u k.1 w.1 s.1)

-- the system by r
pub Sized-below : (n b : ℕ) (r : List ℤ) (j : ℕ) (rows : List (List ℤ)) (cs : List ℤ) (below : List (List ℤ)) → IsPivot r j → length r ≡ n + 1 → UpTo b r →
    Sized (n + 1) b rows → IsSystemBy r j rows cs below → Sized n (below_bound n b) below
Sized-below n b r j rows cs below p l u z s =
    let w = HaveWidth-below r j n rows cs below p.inside l z.widths s in
    record { widths = w; entries = entries_below n b r j rows cs below u z.entries w s }

-- a content is positive and at most so large
abbrev pub IsSmallContent : ℕ → ℤ → Type 0
IsSmallContent m c = (pos 0 <ℤ c) × (unsigned_abs c ≤ m)

pub one_twice : (b : ℕ) → 1 ≤ b → 1 ≤ twice b
one_twice b h = let k : 1 * 1 ≤ b * b = mul-le-mul h h in omega (arith, k)

pub contents_up : (b : ℕ) (r : List ℤ) (j : ℕ) (rows : List (List ℤ)) (cs : List ℤ) (below : List (List ℤ)) → 1 ≤ b → UpTo b r → AllByRecursion (UpTo b) rows →
    IsSystemBy r j rows cs below → AllByRecursion (IsSmallContent (twice b)) cs
contents_up b r j [] [] [] h u k s = tt
contents_up b r j [] [] (d ∷ bs) h u k s = absurd s
contents_up b r j [] (c ∷ cs) below h u k s = absurd s
contents_up b r j (t ∷ ts) [] below h u k s = absurd s
contents_up b r j (t ∷ ts) (c ∷ cs) [] h u k s = absurd s
contents_up b r j (t ∷ ts) (c ∷ cs) (d ∷ bs) h u k s = (
  (s.0.positive, content_up (twice b) (reduced_by r j t) (unsigned_abs c) (one_twice b h) s.0.content (reduced_up b r j t u k.0)),
  contents_up b r j ts cs bs h u k.1 s.1,
)

pub column_up : (b : ℕ) (j : ℕ) (rows : List (List ℤ)) → AllByRecursion (UpTo b) rows → UpTo b (column j rows)
column_up b j [] k = up_none b
column_up b j (t ∷ ts) k = up_cons b (entry_at t j) (column j ts) (k.0.at j) (column_up b j ts k.1)
