-- Lists that were sorted by a key; ascending numbers.
use Rattle.std.proofs.Common.{nat_eq, ◌≡◌, ◌≢◌, ℕ, zero, suc, ◌+◌, ◌<◌, ◌≤◌, List, [], ◌∷◌, length, Bool, arith, sym, refl, ap, ◌∙◌, subst, ◌⊎◌, inl, inr}
use Rattle.std.proofs.Common.{get_or, Contains, AllPairs, true, false, rules}
use Rattle.std.specs.List.Sorted.{IsSortedByKey, IsPermutation}
use Rattle.std.specs.List.{IsDistinct}
use Rattle.std.specs.Ordering.{nat_cmp, is_lt, MatchOrdering, ordering_then, ordering_reverse}
use Rattle.std.specs.Cmp.{IsTotalOrder}
use Rattle.std.specs.Cmp.Lexicographic.{slice_cmp, pointwise}
use Rattle.std.specs.declared.cmp.Ordering.{Ordering}
use Rattle.std.specs.declared.cmp.Ordering.TheVariants.{Less, Equal, Greater}
use Rattle.std.proofs.lemmas.Bool.{cases_eq}
use Rattle.std.specs.Bool.{Decides}
use Rattle.std.proofs.lemmas.Bool.Decides.{Decides-eqb}
use Rattle.std.proofs.lemmas.Cmp.{nat_cmp_total, nat_list_cmp_total, ranked, tied_itself}
use Rattle.std.proofs.lemmas.List.Sorted.{ranks_by}
use Rattle.std.proofs.lemmas.Map.Keys.{IsDistinct-IsPermutation, IsDistinct-from_apart, apart_from_distinct}
use Rattle.std.proofs.lemmas.Slice.Eq.{slice_eq-Decides}
use Rattle.gf_int_theory.proofs.ListLaws.{Contains-here}
use Rattle.gf_duality_theory.proofs.ListLaws.{none_in, in_tail, in_cons}

-- ---- sorted by a key

pub from_sorted : {X K : Type 0} (R : K → K → Ordering) (o : IsTotalOrder R) (key : X → K) (xs : List X) → IsSortedByKey key R xs → (i j : ℕ) (d : X) → i ≤ j →
    j < length xs → is_lt (R (key (get_or xs j d)) (key (get_or xs i d))) ≡ false
from_sorted R o key xs s i zero d h hj = let e : i ≡ 0 = omega (arith, h) in subst (λ k. is_lt (R (key (get_or xs 0 d)) (key (get_or xs k d))) ≡ false) (sym e)
    (ap is_lt (tied_itself o (key (get_or xs 0 d))))
from_sorted R o key xs s i (suc j) d h hj = elim (cases_eq i (suc j)) [
  | inl k ↦ subst (λ m. is_lt (R (key (get_or xs (suc j) d)) (key (get_or xs m d))) ≡ false) (sym k) (ap is_lt (tied_itself o (key (get_or xs (suc j) d))))
  | inr k ↦ let e : suc j ≡ j + 1 = omega arith in
      subst (λ m. is_lt (R (key (get_or xs m d)) (key (get_or xs i d))) ≡ false) (sym e) ((ranks_by o key).chain (get_or xs (j + 1) d) (get_or xs j d)
      (get_or xs i d) (s j d (omega arith) (omega (arith, hj))) (from_sorted R o key xs s i j d (omega (arith, k, h)) (omega (arith, hj))))
]

not_less : (o : Ordering) (x y : ℕ) → MatchOrdering o (x < y) (x ≡ y) (y < x) → is_lt o ≡ false → y ≤ x
not_less Less x y m e = absurd (search rules)
not_less Equal x y m e = omega (arith, m)
not_less Greater x y m e = omega (arith, m)

-- lists that were sorted by their lengths
pub by_lengths : (xs : List (List ℕ)) → IsSortedByKey (λ (part : List ℕ). length part) nat_cmp xs → (i j : ℕ) → i ≤ j → j < length xs →
    length (get_or xs i []) ≤ length (get_or xs j [])
by_lengths xs s i j h l = not_less (nat_cmp (length (get_or xs j [])) (length (get_or xs i []))) (length (get_or xs j [])) (length (get_or xs i []))
    (ranked (length (get_or xs j [])) (length (get_or xs i [])) (nat_cmp (length (get_or xs j [])) (length (get_or xs i []))) refl)
    (from_sorted nat_cmp nat_cmp_total (λ (part : List ℕ). length part) xs s i j [] h l)

equal_at : (o : Ordering) (x y : ℕ) (xs ys : List ℕ) → MatchOrdering o (x < y) (x ≡ y) (y < x) → (slice_cmp nat_cmp xs ys ≡ Equal → xs ≡ ys) →
    ordering_then o (slice_cmp nat_cmp xs ys) ≡ Equal → (x ∷ xs) ≡ (y ∷ ys)
equal_at Less x y xs ys m f e = absurd (search rules)
equal_at Equal x y xs ys m f e = ap (λ t. t ∷ xs) m ∙ ap (λ l. y ∷ l) (f e)
equal_at Greater x y xs ys m f e = absurd (search rules)

pub numbers_equal : (xs ys : List ℕ) → slice_cmp nat_cmp xs ys ≡ Equal → xs ≡ ys
numbers_equal [] [] e = refl
numbers_equal [] (y ∷ ys) e = absurd (search rules)
numbers_equal (x ∷ xs) [] e = absurd (search rules)
numbers_equal (x ∷ xs) (y ∷ ys) e = equal_at (nat_cmp x y) x y xs ys (ranked x y (nat_cmp x y) refl) (numbers_equal xs ys) e

rises : (o : Ordering) (x y : List ℕ) → o ≡ slice_cmp nat_cmp x y → is_lt (slice_cmp nat_cmp y x) ≡ false → (x ≡ y → ⊥) → o ≡ Less
rises Less x y e n f = refl
rises Equal x y e n f = absurd (f (numbers_equal x y (sym e)))
rises Greater x y e n f =
    let g : slice_cmp nat_cmp y x ≡ Less = nat_list_cmp_total.antisymm y x ∙ ap ordering_reverse (sym e) in
    let b : true ≡ false = sym (ap is_lt g) ∙ n in absurd (search rules)

-- sorted by a list of numbers, which differ: strictly
pub strictly : {X : Type 0} (key : X → List ℕ) (xs : List X) → IsSortedByKey key (slice_cmp nat_cmp) xs → AllPairs (λ x y. key x ≢ key y) xs →
    AllPairs (λ x y. slice_cmp nat_cmp (key x) (key y) ≡ Less) xs
strictly key xs s a i j d h l = rises (slice_cmp nat_cmp (key (get_or xs i d)) (key (get_or xs j d))) (key (get_or xs i d)) (key (get_or xs j d)) refl
    (from_sorted (slice_cmp nat_cmp) nat_list_cmp_total key xs s i j d (omega (arith, h)) l) (a i j d h l)

-- ---- lists with different keys, in another order

pub decide_same : (xs ys : List ℕ) → Decides (pointwise nat_eq xs ys) (xs ≡ ys)
decide_same xs ys = slice_eq-Decides Decides-eqb xs ys _ refl

false_of : (b : Bool) (xs ys : List ℕ) → b ≡ pointwise nat_eq xs ys → xs ≢ ys → b ≡ false
false_of true xs ys e n = absurd (n ((decide_same xs ys).0 (sym e)))
false_of false xs ys e n = refl

flipped : (b d : Bool) (xs ys : List ℕ) → b ≡ pointwise nat_eq xs ys → d ≡ pointwise nat_eq ys xs → b ≡ d
flipped true true xs ys e f = refl
flipped false false xs ys e f = refl
flipped true false xs ys e f = let q : xs ≡ ys = (decide_same xs ys).0 (sym e) in let t : pointwise nat_eq ys xs ≡ true =
    (decide_same ys xs).1 (sym q) in absurd (let z : false ≡ true = f ∙ t in search rules)
flipped false true xs ys e f = let q : ys ≡ xs = (decide_same ys xs).0 (sym f) in let t : pointwise nat_eq xs ys ≡ true =
    (decide_same xs ys).1 (sym q) in absurd (let z : false ≡ true = e ∙ t in search rules)

pub still_apart : {X : Type 0} (key : X → List ℕ) (xs ys : List X) → IsPermutation xs ys → AllPairs (λ x y. key x ≢ key y) xs →
    AllPairs (λ x y. key x ≢ key y) ys
still_apart {X} key xs ys p a i j d h l e =
    let same : X → X → Bool = λ x y. pointwise nat_eq (key x) (key y) in
    let u : IsDistinct same xs = IsDistinct-from_apart same xs (λ i j d h l. false_of (same (get_or xs i d) (get_or xs j d)) (key (get_or xs i d))
    (key (get_or xs j d)) refl (a i j d h l)) in
    let v : IsDistinct same ys = IsDistinct-IsPermutation same (λ x y. flipped (same x y) (same y x) (key x) (key y) refl refl) xs ys p u in
    let t : same (get_or ys i d) (get_or ys j d) ≡ false = apart_from_distinct same ys i j d v h l in
    let f : same (get_or ys i d) (get_or ys j d) ≡ true = (decide_same (key (get_or ys i d)) (key (get_or ys j d))).1 e in
    absurd (let z : false ≡ true = sym t ∙ f in search rules)

-- ---- ascending numbers

pub above_head : (x : ℕ) (xs : List ℕ) → AllPairs (λ i j. i < j) (x ∷ xs) → (y : ℕ) → Contains xs y → x < y
above_head x xs a y c = subst (λ t. x < t) c.2 (a 0 (suc c.0) y (omega arith) (omega (arith, c.1)))

rest_ascends : (x : ℕ) (xs : List ℕ) → AllPairs (λ i j. i < j) (x ∷ xs) → AllPairs (λ i j. i < j) xs
rest_ascends x xs a i j d h l = a (suc i) (suc j) d (omega (arith, h)) (omega (arith, l))

-- numbers that are all among others are no more
pub within_short : (xs ys : List ℕ) → AllPairs (λ i j. i < j) xs → AllPairs (λ i j. i < j) ys → ((x : ℕ) → Contains xs x → Contains ys x) →
    length xs ≤ length ys
within_short [] ys a b f = omega arith
within_short (x ∷ xs) [] a b f = absurd (none_in x (f x (Contains-here x xs)))
within_short (x ∷ xs) (y ∷ ys) a b f = elim (in_cons y ys x (f x (Contains-here x xs))) [
  | inl e ↦
      let r = within_short xs ys (rest_ascends x xs a) (rest_ascends y ys b) (λ z c. elim (in_cons y ys z (f z (in_tail x xs z c))) [
        | inl q ↦ let h = above_head x xs a z c in absurd (omega (arith, h, q, e))
        | inr d ↦ d
      ]) in omega (arith, r)
  | inr c ↦
      let yx = above_head y ys b x c in
      let r = within_short (x ∷ xs) ys a (rest_ascends y ys b) (λ z d. elim (in_cons y ys z (f z d)) [
        | inr i ↦ i
        | inl q ↦ elim (in_cons x xs z d) [
          | inl w ↦ absurd (omega (arith, yx, q, w))
          | inr w ↦ let h = above_head x xs a z w in absurd (omega (arith, yx, h, q))
        ]
      ]) in omega (arith, r)
]

-- and where they are no fewer, all of them
pub within_all : (xs ys : List ℕ) → AllPairs (λ i j. i < j) xs → AllPairs (λ i j. i < j) ys → ((x : ℕ) → Contains xs x → Contains ys x) →
    length ys ≤ length xs → (y : ℕ) → Contains ys y → Contains xs y
within_all [] ys a b f l y c = absurd (let h = c.1 in omega (arith, l, h))
within_all (x ∷ xs) [] a b f l y c = absurd (none_in y c)
within_all (x ∷ xs) (y ∷ ys) a b f l z c = elim (in_cons y ys x (f x (Contains-here x xs))) [
  | inl e ↦ elim (in_cons y ys z c) [
    | inl q ↦ subst (Contains (x ∷ xs)) (e ∙ sym q) (Contains-here x xs)
    | inr d ↦ in_tail x xs z (within_all xs ys (rest_ascends x xs a) (rest_ascends y ys b) (λ w k. elim (in_cons y ys w (f w (in_tail x xs w k))) [
      | inl q ↦ let h = above_head x xs a w k in absurd (omega (arith, h, q, e))
      | inr i ↦ i
    ]) (omega (arith, l)) z d)
  ]
  | inr c ↦
      let yx = above_head y ys b x c in
      let r = within_short (x ∷ xs) ys a (rest_ascends y ys b) (λ z d. elim (in_cons y ys z (f z d)) [
        | inr i ↦ i
        | inl q ↦ elim (in_cons x xs z d) [
          | inl w ↦ absurd (omega (arith, yx, q, w))
          | inr w ↦ let h = above_head x xs a z w in absurd (omega (arith, yx, h, q))
        ]
      ]) in absurd (omega (arith, r, l))
]

-- ascending lists with the same numbers are the same
pub same_numbers : (xs ys : List ℕ) → AllPairs (λ i j. i < j) xs → AllPairs (λ i j. i < j) ys → ((x : ℕ) → Contains xs x → Contains ys x) →
    ((y : ℕ) → Contains ys y → Contains xs y) → xs ≡ ys
same_numbers [] [] a b f g = refl
same_numbers [] (y ∷ ys) a b f g = absurd (none_in y (g y (Contains-here y ys)))
same_numbers (x ∷ xs) [] a b f g = absurd (none_in x (f x (Contains-here x xs)))
same_numbers (x ∷ xs) (y ∷ ys) a b f g =
    let e : x ≡ y = elim (in_cons y ys x (f x (Contains-here x xs))) [
      | inl q ↦ q
      | inr c ↦ elim (in_cons x xs y (g y (Contains-here y ys))) [
        | inl q ↦ sym q
        | inr d ↦ let h = above_head y ys b x c in let k = above_head x xs a y d in absurd (omega (arith, h, k))
      ]
    ] in
    ap (λ t. t ∷ xs) e ∙ ap (λ l. y ∷ l) (same_numbers xs ys (rest_ascends x xs a) (rest_ascends y ys b)
    (λ z c. elim (in_cons y ys z (f z (in_tail x xs z c))) [ inl q ↦ let h = above_head x xs a z c in absurd (omega (arith, h, q, e)) | inr d ↦ d ])
    (λ z c. elim (in_cons x xs z (g z (in_tail y ys z c))) [ inl q ↦ let h = above_head y ys b z c in absurd (omega (arith, h, q, e)) | inr d ↦ d ]))

listed_or : (ys : List ℕ) (x : ℕ) → Contains ys x ⊎ (Contains ys x → ⊥)
listed_or [] x = inr (none_in x)
listed_or (y ∷ ys) x = elim (cases_eq x y) [
  | inl e ↦ inl (subst (Contains (y ∷ ys)) (sym e) (Contains-here y ys))
  | inr n ↦ elim (listed_or ys x) [ inl c ↦ inl (in_tail y ys x c) | inr m ↦ inr (λ c. elim (in_cons y ys x c) [ inl e ↦ n e | inr d ↦ m d ]) ]
]

-- a number that the others lack, if there is one
pub missing : (xs ys : List ℕ) → ((x : ℕ) × (Contains xs x × (Contains ys x → ⊥))) ⊎ ((x : ℕ) → Contains xs x → Contains ys x)
missing [] ys = inr (λ x c. absurd (none_in x c))
missing (x ∷ xs) ys = elim (listed_or ys x) [
  | inr n ↦ inl (x, (Contains-here x xs, n))
  | inl c ↦ elim (missing xs ys) [
    | inl m ↦ inl (m.0, (in_tail x xs m.0 m.1.0, m.1.1))
    | inr f ↦ inr (λ z d. elim (in_cons x xs z d) [ inl e ↦ subst (Contains ys) (sym e) c | inr w ↦ f z w ])
  ]
]
