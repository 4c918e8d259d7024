-- There are few vectors with small entries; so the sum of an ascending list of them is small.
-- To cite: boxes, few_vectors, no_wide_total. The rest are steps.
use Rattle.std.proofs.Common.{◌≡◌, ℕ, zero, suc, ◌+◌, ◌*◌, ◌<◌, ◌≤◌, ◌^◌, List, [], ◌∷◌, ◌++◌, length, get_or, ℤ, pos, ◌+ℤ◌, ◌<ℤ◌, unsigned_abs, arith, refl}
use Rattle.std.proofs.Common.{sym, ap}
use Rattle.std.proofs.Common.{◌∙◌, subst, inl, inr, Contains, AllPairs, rules}
use Rattle.std.specs.Ordering.{int_cmp, ordering_then, MatchOrdering}
use Rattle.std.specs.Cmp.Lexicographic.{slice_cmp}
use Rattle.std.specs.declared.cmp.Ordering.{Ordering}
use Rattle.std.specs.declared.cmp.Ordering.TheVariants.{Less, Equal, Greater}
use Rattle.std.proofs.Math.Nat.{mul-le-mul_left}
use Rattle.std.proofs.lemmas.Cmp.{int_ranked}
use Rattle.std.proofs.lemmas.Int.{ints}
use Rattle.std.proofs.lemmas.List.{get_or_default}
use Rattle.gf_int_theory.proofs.ListLaws.{Contains-here}
use Rattle.gf_vec.specs.Vector.{vector_sum}
use Rattle.gf_vec.specs.Steps.{sum_steps, IsWide, IsFirstWide}
use Rattle.gf_vec.specs.declared.error.WideVector.{WideVector}
use Rattle.gf_gordan.proofs.SizeLaws.{UpTo, sum_up, up_tail, up_sum}
use Rattle.gf_duality_theory.proofs.ListLaws.{in_tail}
use Rattle.gf_rays.specs.Sums.{adding_steps}

-- how many vectors of k entries there are, each entry one of c
abbrev pub boxes : ℕ → ℕ → ℕ
boxes c zero = 1
boxes c (suc k) = boxes c k * c

-- ---- the number whose digits, to this base, are the entries from -m to m

abbrev digit : ℕ → ℤ → ℕ
digit m x = unsigned_abs (x +ℤ pos m)

digit_less : (m : ℕ) (x : ℤ) → unsigned_abs x ≤ m → digit m x ≤ m + m
digit_less m x h = omega (arith, ints, h)

digit_rises : (m : ℕ) (x y : ℤ) → unsigned_abs x ≤ m → unsigned_abs y ≤ m → x <ℤ y → suc (digit m x) ≤ digit m y
digit_rises m x y h k l = omega (arith, ints, h, k, l)

abbrev base : ℕ → ℕ
base m = suc (m + m)

abbrev number : ℕ → List ℤ → ℕ
number m [] = 0
number m (x ∷ xs) = boxes (base m) (length xs) * digit m x + number m xs

number_less : (m : ℕ) (xs : List ℤ) → UpTo m xs → number m xs < boxes (base m) (length xs)
number_less m [] u = omega arith
number_less m (x ∷ xs) u =
    let b : ℕ = boxes (base m) (length xs) in
    let p : number m xs < b = number_less m xs (up_tail m x xs u) in
    let q : b * digit m x ≤ b * (m + m) = mul-le-mul_left b (digit_less m x (u.at 0)) in
    omega (arith, p, q)

number_rises : (m : ℕ) (xs ys : List ℤ) → UpTo m xs → UpTo m ys → length xs ≡ length ys → slice_cmp int_cmp xs ys ≡ Less → number m xs < number m ys
number_rises m [] [] u v e l = absurd (search rules)
number_rises m [] (y ∷ ys) u v e l = absurd (omega (arith, e))
number_rises m (x ∷ xs) [] u v e l = absurd (omega (arith, e))
number_rises m (x ∷ xs) (y ∷ ys) u v e l =
    at (int_cmp x y) (int_ranked x y (int_cmp x y) refl) l (λ k. number_rises m xs ys (up_tail m x xs u) (up_tail m y ys v) (omega (arith, e)) k)
  where
    long : length xs ≡ length ys
    long = omega (arith, e)

    sizes : boxes (base m) (length xs) ≡ boxes (base m) (length ys)
    sizes = ap (boxes (base m)) long

    at : (o : Ordering) → MatchOrdering o (x <ℤ y) (x ≡ y) (y <ℤ x) → ordering_then o (slice_cmp int_cmp xs ys) ≡ Less →
        (slice_cmp int_cmp xs ys ≡ Less → number m xs < number m ys) →
        boxes (base m) (length xs) * digit m x + number m xs < boxes (base m) (length ys) * digit m y + number m ys
    at Less h k rest =
        let b : ℕ = boxes (base m) (length ys) in
        let p : number m xs < boxes (base m) (length xs) = number_less m xs (up_tail m x xs u) in
        let q : b * suc (digit m x) ≤ b * digit m y = mul-le-mul_left b (digit_rises m x y (u.at 0) (v.at 0) h) in
        let r : boxes (base m) (length xs) * digit m x ≡ b * digit m x = ap (λ (z : ℕ). z * digit m x) sizes in
        omega (arith, p, q, r, sizes)
    at Equal h k rest =
        let p : number m xs < number m ys = rest k in
        let r : boxes (base m) (length xs) * digit m x ≡ boxes (base m) (length ys) * digit m x = ap (λ (z : ℕ). z * digit m x) sizes in
        let s : boxes (base m) (length ys) * digit m x ≡ boxes (base m) (length ys) * digit m y =
        ap (λ (z : ℤ). boxes (base m) (length ys) * digit m z) h in
        omega (arith, p, r, s)
    at Greater h k rest = absurd (search rules)

-- ---- there are few of them

module _ (n m : ℕ) (rays : List (List ℤ)) (small : (x : List ℤ) → Contains rays x → UpTo m x) (wide : (x : List ℤ) → Contains rays x → length x ≡ n)
    (up : AllPairs (λ x y. slice_cmp int_cmp x y ≡ Less) rays) where
  there : (i : ℕ) → i < length rays → Contains rays (get_or rays i [])
  there i l = (i, l, get_or_default rays i (get_or rays i []) [] l)

  rising : (i : ℕ) → i < length rays → i ≤ number m (get_or rays i [])
  rising zero l = omega arith
  rising (suc i) l =
      let k : i < length rays = omega (arith, l) in
      let p = rising i k in
      let a = there i k in
      let b = there (suc i) l in
      let q = number_rises m (get_or rays i []) (get_or rays (suc i) []) (small (get_or rays i []) a) (small (get_or rays (suc i) []) b)
      (wide (get_or rays i []) a ∙ sym (wide (get_or rays (suc i) []) b)) (up i (suc i) [] (omega arith) l) in
      omega (arith, p, q)

  pub few_vectors : length rays ≤ boxes (base m) n
  few_vectors = at (length rays) refl
    where
      at : (c : ℕ) → length rays ≡ c → length rays ≤ boxes (base m) n
      at zero e = omega (arith, e)
      at (suc c) e =
          let l : c < length rays = omega (arith, e) in
          let p = rising c l in
          let x = get_or rays c [] in
          let q = number_less m x (small x (there c l)) in
          let r : boxes (base m) (length x) ≡ boxes (base m) n = ap (boxes (base m)) (wide x (there c l)) in
          omega (arith, p, q, r, e)

-- ---- their sum

no_wide_step : (p q : ℕ) (xs ys : List ℤ) (e : WideVector) (more : List WideVector) → UpTo p xs → UpTo q ys → p + q < 2 ^ 127 →
    IsFirstWide e (sum_steps xs ys ++ more) → IsFirstWide e more
no_wide_step p q [] ys e more u v l f = f
no_wide_step p q (x ∷ xs) [] e more u v l f = f
no_wide_step p q (x ∷ xs) (y ∷ ys) e more u v l f = elim f [
  | inl k ↦ absurd (let wide : 2 ^ 127 ≤ unsigned_abs (x +ℤ y) = subst IsWide (sym k.0) k.1 in
      let small : unsigned_abs (x +ℤ y) ≤ p + q = sum_up x y p q (u.at 0) (v.at 0) in omega (arith, wide, small, l))
  | inr k ↦ no_wide_step p q xs ys e more (up_tail p x xs u) (up_tail q y ys v) l k.1
]

-- adding vectors with entries up to m to one with entries up to c
pub no_wide_total : (c m : ℕ) (sum : List ℤ) (rays : List (List ℤ)) (e : WideVector) → UpTo c sum → ((x : List ℤ) → Contains rays x → UpTo m x) →
    c + m * length rays < 2 ^ 127 → IsFirstWide e (adding_steps sum rays) → ⊥
no_wide_total c m sum [] e u each l f = f
no_wide_total c m sum (x ∷ xs) e u each l f =
    let more : m * length xs + m ≡ m * suc (length xs) = omega arith in
    let k = no_wide_step c m sum x e (adding_steps (vector_sum sum x) xs) u (each x (Contains-here x xs)) (omega (arith, l, more)) f in
    no_wide_total (c + m) m (vector_sum sum x) xs e (up_sum c m sum x u (each x (Contains-here x xs))) (λ y i. each y (in_tail x xs y i))
    (omega (arith, l, more)) k
