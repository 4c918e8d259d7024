-- The rays of a cone that differences of two entries cut out of the non-negative vectors have entries 0 and 1; so they are few, and their sums small.
-- To cite: IsOrderRow, AreBits, by_entry, doubled, rays_bits, few_rays, bits_up, no_wide_sums, sum_up_of. The rest are steps.
use Rattle.std.proofs.Common.{
  ◌≡◌,
  ℕ,
  zero,
  suc,
  ◌+◌,
  ◌*◌,
  ◌<◌,
  ◌≤◌,
  ◌^◌,
  List,
  [],
  ◌∷◌,
  ◌++◌,
  length,
  replicate,
  get_or,
  ℤ,
  pos,
  negsuc,
  ◌+ℤ◌,
  ◌-ℤ◌,
  ◌*ℤ◌,
  ◌<ℤ◌,
  ◌≤ℤ◌,
  unsigned_abs,
  arith,
  refl,
  sym,
  ap,
  ap₂,
  ◌∙◌,
  subst,
  inl,
  inr,
  Contains,
}
use Rattle.std.specs.Prelude.{AllPairs}
use Rattle.std.specs.Int.{◌∣◌}
use Rattle.std.specs.List.{AllByRecursion}
use Rattle.std.specs.Ordering.{int_cmp}
use Rattle.std.specs.Cmp.Lexicographic.{slice_cmp}
use Rattle.std.specs.declared.cmp.Ordering.TheVariants.{Less}
use Rattle.std.proofs.Math.Nat.{eq-one_of_dvd-one}
use Rattle.std.proofs.lemmas.Int.{ints}
use Rattle.std.proofs.lemmas.List.{get_or_default}
use Rattle.std.proofs.lemmas.List.Elements.{All-contains}
use Rattle.gf_int_theory.specs.Content.{IsPrimitive, AllZero, scaled}
use Rattle.gf_int_theory.proofs.ListLaws.{Contains-here}
use Rattle.gf_vec.specs.Vector.{dot, vector_sum, combined}
use Rattle.gf_vec.specs.Steps.{sum_steps, IsWide, IsFirstWide}
use Rattle.gf_vec.specs.declared.error.WideVector.{WideVector}
use Rattle.gf_vec.proofs.EntryLaws.{entry_times}
use Rattle.gf_vec.proofs.PrimitiveLaws.{primitive_same}
use Rattle.gf_gordan.proofs.SizeLaws.{UpTo, sum_up, up_weaker, up_none, up_tail, up_cons, up_zeros, up_times, up_sum}
use Rattle.gf_duality_theory.specs.Rays.{IsRays}
use Rattle.gf_duality_theory.specs.Generators.{Made}
use Rattle.gf_duality_theory.proofs.ListLaws.{none_in, in_cons, in_tail}
use Rattle.gf_duality_theory.proofs.Taking.{IsMultiple, single}
use Rattle.gf_duality_theory.proofs.Uniqueness.{face_made}
use Rattle.gf_duality_theory.proofs.Determined.{described_of, alone_of}
use Rattle.gf_rays.specs.Sums.{adding_steps}
use Rattle.gfan_theory.specs.Differences.{IsDifferenceRow}

-- ---- the vector with 1 where another one isn't 0

abbrev pub one_of : ℤ → ℤ
one_of (pos zero) = pos 0
one_of (pos (suc k)) = pos 1
one_of (negsuc k) = pos 0

abbrev pub indicator : List ℤ → List ℤ
indicator [] = []
indicator (x ∷ xs) = one_of x ∷ indicator xs

length-indicator : (xs : List ℤ) → length (indicator xs) ≡ length xs
length-indicator [] = refl
length-indicator (x ∷ xs) = ap suc (length-indicator xs)

entry-indicator : (xs : List ℤ) (i : ℕ) → get_or (indicator xs) i (pos 0) ≡ one_of (get_or xs i (pos 0))
entry-indicator [] i = refl
entry-indicator (x ∷ xs) zero = refl
entry-indicator (x ∷ xs) (suc i) = entry-indicator xs i

-- an entry that isn't negative, and that of the indicator
data Bit (a u : ℤ) : Type 0 where
  off : a ≡ pos 0 → u ≡ pos 0 → Bit a u
  on : pos 0 <ℤ a → u ≡ pos 1 → Bit a u

bit : (a : ℤ) → pos 0 ≤ℤ a → Bit a (one_of a)
bit (pos zero) l = Bit.off refl refl
bit (pos (suc k)) l = Bit.on (omega (arith, ints)) refl
bit (negsuc k) l = absurd (omega (arith, ints))

step_up : (a b u v : ℤ) → Bit a u → Bit b v → pos 0 ≤ℤ (a -ℤ b) → pos 0 ≤ℤ (u -ℤ v)
step_up a b u v (Bit.off p q) (Bit.off r s) l = omega (arith, ints)
step_up a b u v (Bit.off p q) (Bit.on r s) l = absurd (omega (arith, ints))
step_up a b u v (Bit.on p q) (Bit.off r s) l = omega (arith, ints)
step_up a b u v (Bit.on p q) (Bit.on r s) l = omega (arith, ints)

step_flat : (a b u v : ℤ) → Bit a u → Bit b v → a -ℤ b ≡ pos 0 → u -ℤ v ≡ pos 0
step_flat a b u v (Bit.off p q) (Bit.off r s) l = omega (arith, ints)
step_flat a b u v (Bit.off p q) (Bit.on r s) l = absurd (omega (arith, ints))
step_flat a b u v (Bit.on p q) (Bit.off r s) l = absurd (omega (arith, ints))
step_flat a b u v (Bit.on p q) (Bit.on r s) l = omega (arith, ints)

bit_up : (a u : ℤ) → Bit a u → pos 0 ≤ℤ u
bit_up a u (Bit.off p q) = omega (arith, ints)
bit_up a u (Bit.on p q) = omega (arith, ints)

bit_flat : (a u : ℤ) → Bit a u → a ≡ pos 0 → u ≡ pos 0
bit_flat a u (Bit.off p q) e = q
bit_flat a u (Bit.on p q) e = absurd (omega (arith, ints))

-- ---- rows

-- on each vector the row is the difference of two of its entries, or one of them
pub data IsOrderRow (n : ℕ) (row : List ℤ) : Type 0 where
  difference : IsDifferenceRow n row → IsOrderRow n row
  entry : (index : ℕ) → index < n → ((v : List ℤ) → length v ≡ n → dot row v ≡ get_or v index (pos 0)) → IsOrderRow n row

-- each entry of a vector on which no row is negative isn't negative
abbrev pub HaveUnits : ℕ → List (List ℤ) → Type 0
HaveUnits n hs = (i : ℕ) (v : List ℤ) → i < n → length v ≡ n → ((t : List ℤ) → Contains hs t → pos 0 ≤ℤ dot t v) → pos 0 ≤ℤ get_or v i (pos 0)

-- an entry of a list of which this holds
pub by_entry : (P : ℤ → Type 0) (xs : List ℤ) (i : ℕ) → AllByRecursion P xs → i < length xs → P (get_or xs i (pos 0))
by_entry P [] i a l = absurd (omega arith)
by_entry P (x ∷ xs) zero a l = a.0
by_entry P (x ∷ xs) (suc i) a l = by_entry P xs i a.1 (omega arith)

module _ (n : ℕ) (hs rays : List (List ℤ)) (h : IsRays n hs [] [] rays) (order : (t : List ℤ) → Contains hs t → IsOrderRow n t) (low : HaveUnits n hs)
    (x : List ℤ) (c : Contains rays x) where
  long : length x ≡ n
  long = (described_of n hs [] [] rays h).rays_width x c

  long_too : length (indicator x) ≡ n
  long_too = length-indicator x ∙ long

  fits : (i : ℕ) → i < n → Bit (get_or x i (pos 0)) (one_of (get_or x i (pos 0)))
  fits i l = bit (get_or x i (pos 0)) (low i x l long (λ t k. (described_of n hs [] [] rays h).valid.up t x k c))

  -- no row is negative on the indicator, and each row that is zero on the ray is zero on it
  up_at : (t : List ℤ) → IsOrderRow n t → pos 0 ≤ℤ dot t x → pos 0 ≤ℤ dot t (indicator x)
  up_at t (IsOrderRow.difference d) l =
      subst (λ (z : ℤ). pos 0 ≤ℤ z) (sym (d.difference (indicator x) long_too ∙ ap₂ (λ (p q : ℤ). p -ℤ q) (entry-indicator x d.high) (entry-indicator x d.low)))
      (step_up (get_or x d.high (pos 0)) (get_or x d.low (pos 0)) (one_of (get_or x d.high (pos 0))) (one_of (get_or x d.low (pos 0)))
      (fits d.high d.high_inside) (fits d.low d.low_inside)
      (subst (λ (z : ℤ). pos 0 ≤ℤ z) (d.difference x long) l))
  up_at t (IsOrderRow.entry index i e) l =
      subst (λ (z : ℤ). pos 0 ≤ℤ z) (sym (e (indicator x) long_too ∙ entry-indicator x index))
      (bit_up (get_or x index (pos 0)) (one_of (get_or x index (pos 0))) (fits index i))

  flat_at : (t : List ℤ) → IsOrderRow n t → dot t x ≡ pos 0 → dot t (indicator x) ≡ pos 0
  flat_at t (IsOrderRow.difference d) e =
      d.difference (indicator x) long_too ∙ ap₂ (λ (p q : ℤ). p -ℤ q) (entry-indicator x d.high) (entry-indicator x d.low)
      ∙ step_flat (get_or x d.high (pos 0)) (get_or x d.low (pos 0)) (one_of (get_or x d.high (pos 0))) (one_of (get_or x d.low (pos 0)))
      (fits d.high d.high_inside) (fits d.low d.low_inside)
      (sym (d.difference x long) ∙ e)
  flat_at t (IsOrderRow.entry index i f) e =
      f (indicator x) long_too ∙ entry-indicator x index
      ∙ bit_flat (get_or x index (pos 0)) (one_of (get_or x index (pos 0))) (fits index i) (sym (f x long) ∙ e)

  made : Made n rays [] (indicator x)
  made = (described_of n hs [] [] rays h).complete (indicator x) long_too (λ t k. up_at t (order t k) ((described_of n hs [] [] rays h).valid.up t x k c))
      (λ e k. absurd (none_in e k))

  -- so it is a multiple of the ray
  multiple : IsMultiple x (indicator x)
  multiple = single n (x ∷ []) [] x (indicator x) long (λ y k. elim (in_cons x [] y k) [ inl e ↦ e | inr z ↦ absurd (none_in y z) ]) (λ y k. none_in y k)
      (face_made n hs rays (x ∷ []) [] x (indicator x) (described_of n hs [] [] rays h).valid
      (λ y k z. subst (Contains (x ∷ [])) (sym (alone_of n hs [] [] rays x y h c k z)) (Contains-here x [])) made (λ t k e. flat_at t (order t k) e))

  -- some entry is positive
  positive_at : (t : List ℤ) → IsOrderRow n t → pos 0 <ℤ dot t x → (i : ℕ) × (i < n) × (pos 0 <ℤ get_or x i (pos 0))
  positive_at t (IsOrderRow.difference d) l =
      let value : dot t x ≡ get_or x d.high (pos 0) -ℤ get_or x d.low (pos 0) = d.difference x long in
      let other : pos 0 ≤ℤ get_or x d.low (pos 0) = low d.low x d.low_inside long (λ s k. (described_of n hs [] [] rays h).valid.up s x k c) in
      (d.high, d.high_inside, omega (arith, ints, value, other, l))
  positive_at t (IsOrderRow.entry index i e) l = (index, i, subst (λ (z : ℤ). pos 0 <ℤ z) (e x long) l)

  some : (i : ℕ) × (i < n) × (pos 0 <ℤ get_or x i (pos 0))
  some = let p = (described_of n hs [] [] rays h).pointed x c in positive_at p.0 (order p.0 p.1.0) p.1.1

  one_there : get_or (indicator x) some.0 (pos 0) ≡ pos 1
  one_there = entry-indicator x some.0 ∙ at (fits some.0 some.1)
    where
      at : Bit (get_or x some.0 (pos 0)) (one_of (get_or x some.0 (pos 0))) → one_of (get_or x some.0 (pos 0)) ≡ pos 1
      at (Bit.off p q) = absurd (let l = some.2 in omega (arith, ints, p, l))
      at (Bit.on p q) = q

  factor_positive : pos 0 <ℤ multiple.a
  factor_positive =
      let e : multiple.k *ℤ get_or (indicator x) some.0 (pos 0) ≡ multiple.a *ℤ get_or x some.0 (pos 0) =
      sym (entry_times multiple.k (indicator x) some.0) ∙ ap (λ (z : List ℤ). get_or z some.0 (pos 0)) multiple.is ∙ entry_times multiple.a x some.0 in
      let f : multiple.k *ℤ pos 1 ≡ multiple.a *ℤ get_or x some.0 (pos 0) = ap (λ (z : ℤ). multiple.k *ℤ z) (sym one_there) ∙ e in
      positive_factor multiple.k multiple.a (get_or x some.0 (pos 0)) multiple.k_positive multiple.a_fits f
    where
      positive_factor : (k a y : ℤ) → pos 0 <ℤ k → pos 0 ≤ℤ a → k *ℤ pos 1 ≡ a *ℤ y → pos 0 <ℤ a
      positive_factor k (pos zero) y p l e = absurd (let z : pos 0 *ℤ y ≡ pos 0 = omega (arith, ints) in omega (arith, ints, e, z, p))
      positive_factor k (pos (suc a)) y p l e = omega (arith, ints)
      positive_factor k (negsuc a) y p l e = absurd (omega (arith, ints))

  indicator_primitive : IsPrimitive (indicator x)
  indicator_primitive d a =
      inl (eq-one_of_dvd-one (subst (λ (z : ℤ). d ∣ unsigned_abs z) one_there
      (by_entry (λ (z : ℤ). d ∣ unsigned_abs z) (indicator x) some.0 a (let l = some.1 in let m = long_too in omega arith))))

  not_zero : AllZero x → ⊥
  not_zero a = let z = by_entry (λ (y : ℤ). y ≡ pos 0) x some.0 a (let l = some.1 in let m = long in omega arith) in let l = some.2 in omega (arith, ints, z, l)

  pub itself : indicator x ≡ x
  itself = primitive_same x (indicator x) multiple.k multiple.a multiple.k_positive factor_positive multiple.is
      (All-contains IsPrimitive rays x h.primitive c) indicator_primitive not_zero

-- ---- vectors of zeros and ones

pub data AreBits : List ℤ → Type 0 where
  none : AreBits []
  nought : (xs : List ℤ) → AreBits xs → AreBits (pos 0 ∷ xs)
  one : (xs : List ℤ) → AreBits xs → AreBits (pos 1 ∷ xs)

bits_of : (xs : List ℤ) → indicator xs ≡ xs → AreBits xs
bits_of [] e = AreBits.none
bits_of (pos zero ∷ xs) e = let t : indicator xs ≡ xs = cc in AreBits.nought xs (bits_of xs t)
bits_of (pos (suc zero) ∷ xs) e = let t : indicator xs ≡ xs = cc in AreBits.one xs (bits_of xs t)
bits_of (pos (suc (suc k)) ∷ xs) e = absurd (let q : pos 1 ≡ pos (suc (suc k)) = cc in omega (arith, ints, q))
bits_of (negsuc k ∷ xs) e = absurd (let q : pos 0 ≡ negsuc k = cc in omega (arith, ints, q))

pub rays_bits : (n : ℕ) (hs rays : List (List ℤ)) → IsRays n hs [] [] rays → ((t : List ℤ) → Contains hs t → IsOrderRow n t) → HaveUnits n hs → (x : List ℤ) →
    Contains rays x → AreBits x
rays_bits n hs rays h order low x c = bits_of x (itself n hs rays h order low x c)

-- ---- there are few of them

abbrev pub doubled : ℕ → ℕ
doubled zero = 1
doubled (suc k) = doubled k + doubled k

-- the number whose binary digits they are
number : (xs : List ℤ) → AreBits xs → ℕ
number xs AreBits.none = 0
number ys (AreBits.nought xs a) = number xs a
number ys (AreBits.one xs a) = doubled (length xs) + number xs a

number_less : (xs : List ℤ) (a : AreBits xs) → number xs a < doubled (length xs)
unfolding number
number_less xs AreBits.none = omega arith
number_less ys (AreBits.nought xs a) = let l = number_less xs a in omega (arith, l)
number_less ys (AreBits.one xs a) = let l = number_less xs a in omega (arith, l)

number_rises : (xs ys : List ℤ) (a : AreBits xs) (b : AreBits ys) → length xs ≡ length ys → slice_cmp int_cmp xs ys ≡ Less → number xs a < number ys b
unfolding number
number_rises xs ys AreBits.none AreBits.none e l = absurd (cc)
number_rises xs zs AreBits.none (AreBits.nought ys b) e l = absurd (omega (arith, e))
number_rises xs zs AreBits.none (AreBits.one ys b) e l = absurd (omega (arith, e))
number_rises us ys (AreBits.nought xs a) AreBits.none e l = absurd (omega (arith, e))
number_rises us zs (AreBits.nought xs a) (AreBits.nought ys b) e l = number_rises xs ys a b (omega (arith, e)) l
number_rises us zs (AreBits.nought xs a) (AreBits.one ys b) e l =
    let m : length xs ≡ length ys = omega (arith, e) in
    let p : number xs a < doubled (length xs) = number_less xs a in
    let q : doubled (length xs) ≡ doubled (length ys) = ap doubled m in
    omega (arith, p, q)
number_rises us ys (AreBits.one xs a) AreBits.none e l = absurd (omega (arith, e))
number_rises us zs (AreBits.one xs a) (AreBits.nought ys b) e l = absurd (cc)
number_rises us zs (AreBits.one xs a) (AreBits.one ys b) e l =
    let m : length xs ≡ length ys = omega (arith, e) in
    let p : number xs a < number ys b = number_rises xs ys a b m l in
    let q : doubled (length xs) ≡ doubled (length ys) = ap doubled m in
    omega (arith, p, q)

module _ (n : ℕ) (rays : List (List ℤ)) (bits : (x : List ℤ) → Contains rays x → AreBits x) (wide : (x : List ℤ) → Contains rays x → length x ≡ n)
    (up : AllPairs (λ x y. slice_cmp int_cmp x y ≡ Less) rays) where
  there : (i : ℕ) → i < length rays → Contains rays (get_or rays i [])
  there i l = (i, l, get_or_default rays i (get_or rays i []) [] l)

  rising : (i : ℕ) (l : i < length rays) → i ≤ number (get_or rays i []) (bits (get_or rays i []) (there i l))
  rising zero l = omega arith
  rising (suc i) l =
      let k : i < length rays = omega arith in
      let p = rising i k in
      let q = number_rises (get_or rays i []) (get_or rays (suc i) []) (bits (get_or rays i []) (there i k)) (bits (get_or rays (suc i) []) (there (suc i) l))
      (wide (get_or rays i []) (there i k) ∙ sym (wide (get_or rays (suc i) []) (there (suc i) l))) (up i (suc i) [] (omega arith) l) in
      omega (arith, p, q)

  pub few_rays : length rays ≤ doubled n
  few_rays = at (length rays) refl
    where
      some : (k : ℕ) → 1 ≤ doubled k
      some zero = omega arith
      some (suc k) = let p = some k in omega (arith, p)

      at : (m : ℕ) → length rays ≡ m → length rays ≤ doubled n
      at zero e = let p = some n in omega (arith, e, p)
      at (suc m) e =
          let l : m < length rays = omega arith in
          let p = rising m l in
          let q = number_less (get_or rays m []) (bits (get_or rays m []) (there m l)) in
          let r : doubled (length (get_or rays m [])) ≡ doubled n = ap doubled (wide (get_or rays m []) (there m l)) in
          omega (arith, p, q, r, e)

-- ---- sums

pub bits_up : (xs : List ℤ) → AreBits xs → UpTo 1 xs
bits_up xs AreBits.none = up_none 1
bits_up ys (AreBits.nought xs a) = up_cons 1 (pos 0) xs (omega arith) (bits_up xs a)
bits_up ys (AreBits.one xs a) = up_cons 1 (pos 1) xs (omega arith) (bits_up xs a)

no_wide_step : (p q : ℕ) (xs ys : List ℤ) (e : WideVector) (more : List WideVector) → UpTo p xs → UpTo q ys → p + q < 2 ^ 127 →
    IsFirstWide e (sum_steps xs ys ++ more) → IsFirstWide e more
no_wide_step p q [] ys e more u v l f = f
no_wide_step p q (x ∷ xs) [] e more u v l f = f
no_wide_step p q (x ∷ xs) (y ∷ ys) e more u v l f = elim f [
  | inl k ↦ absurd (let wide : 2 ^ 127 ≤ unsigned_abs (x +ℤ y) = subst IsWide (sym k.0) k.1 in
      let small : unsigned_abs (x +ℤ y) ≤ p + q = sum_up x y p q (u.at 0) (v.at 0) in omega (arith, wide, small, l))
  | inr k ↦ no_wide_step p q xs ys e more (up_tail p x xs u) (up_tail q y ys v) l k.1
]

one_more : (c b k : ℕ) → c + suc k * b ≡ c + b + k * b
one_more c b k = omega arith

pub no_wide_sums : (b c : ℕ) (sum : List ℤ) (rays : List (List ℤ)) (e : WideVector) → UpTo c sum → ((x : List ℤ) → Contains rays x → UpTo b x) →
    c + length rays * b < 2 ^ 127 → IsFirstWide e (adding_steps sum rays) → ⊥
no_wide_sums b c sum [] e u each l f = f
no_wide_sums b c sum (x ∷ xs) e u each l f =
    let q = one_more c b (length xs) in
    let k = no_wide_step c b sum x e (adding_steps (vector_sum sum x) xs) u (each x (Contains-here x xs)) (omega (arith, l, q)) f in
    no_wide_sums b (c + b) (vector_sum sum x) xs e (up_sum c b sum x u (each x (Contains-here x xs))) (λ y i. each y (in_tail x xs y i)) (omega (arith, l, q)) k

pub sum_up_of : (n : ℕ) (rays : List (List ℤ)) → ((x : List ℤ) → Contains rays x → UpTo 1 x) →
    UpTo (length rays) (combined n (replicate (length rays) (pos 1)) rays)
sum_up_of n [] each = up_zeros 0 n
sum_up_of n (x ∷ xs) each =
    up_weaker (1 + length xs) (length (x ∷ xs)) (vector_sum (scaled (pos 1) x) (combined n (replicate (length xs) (pos 1)) xs)) (omega arith)
    (up_sum 1 (length xs) (scaled (pos 1) x) (combined n (replicate (length xs) (pos 1)) xs)
    (up_times (pos 1) 1 1 x (omega arith) (each x (Contains-here x xs))) (sum_up_of n xs (λ y i. each y (in_tail x xs y i))))
