-- Lists: what is in them, what is related to what, and a list without one of its indices.
use Rattle.std.proofs.Common.{◌≡◌, ◌≢◌, ℕ, zero, suc, ◌+◌, ◌-◌, ◌<◌, List, [], ◌∷◌, ◌++◌, length, ℤ, arith, sym, refl, ap, ◌∙◌, subst, Contains, ◌⊎◌, inl, inr}
use Rattle.std.proofs.Common.{remove, get_or}
use Rattle.std.specs.List.{AllZip}
use Rattle.std.proofs.lemmas.List.{get_or_default}
use Rattle.std.proofs.lemmas.List.Elements.{Contains-append_left, Contains-append_cases}
use Rattle.std.proofs.lemmas.List.Edits.{get_or-remove_below, get_or-remove_above, length-remove}
use Rattle.gf_int_theory.proofs.ListLaws.{Contains-here}

pub none_in : {X : Type 0} (x : X) → Contains [] x → ⊥
none_in x c = absurd (omega (arith, c.1))

pub in_tail : {X : Type 0} (x : X) (xs : List X) (y : X) → Contains xs y → Contains (x ∷ xs) y
in_tail x xs y c = (suc c.0, omega (arith, c.1), c.2)

pub in_cons : {X : Type 0} (x : X) (xs : List X) (y : X) → Contains (x ∷ xs) y → (y ≡ x) ⊎ Contains xs y
in_cons x xs y (zero, l, e) = inl (sym e)
in_cons x xs y (suc k, l, e) = inr (k, omega arith, e)

pub first_in : {X : Type 0} (xs : List X) (x y : X) → Contains xs y → Contains (xs ++ x ∷ []) y
first_in xs x y c = Contains-append_left xs (x ∷ []) y c

pub in_more : (R : List ℤ → Type 0) (hs : List (List ℤ)) (h : List ℤ) → ((k : List ℤ) → Contains hs k → R k) → R h → (k : List ℤ) → Contains (hs ++ h ∷ []) k →
    R k
in_more R hs h f g k c = elim (Contains-append_cases hs (h ∷ []) k c) [
  | inl a ↦ f k a
  | inr a ↦ elim (in_cons h [] k a) [ inl e ↦ subst R (sym e) g | inr b ↦ absurd (none_in k b) ]
]

pub zip_to : {A B : Type 0} (R : A → B → Type 0) (xs : List A) (ys : List B) (x : A) → AllZip R xs ys → Contains xs x → (y : B) × (Contains ys y × R x y)
zip_to R [] [] x a c = absurd (none_in x c)
zip_to R [] (y ∷ ys) x a c = absurd a
zip_to R (z ∷ xs) [] x a c = absurd a
zip_to R (z ∷ xs) (y ∷ ys) x a c = elim (in_cons z xs x c) [
  | inl e ↦ (y, (Contains-here y ys, subst (λ t. R t y) (sym e) a.0))
  | inr d ↦ let t = zip_to R xs ys x a.1 d in (t.0, (in_tail y ys t.0 t.1.0, t.1.1))
]

pub zip_from : {A B : Type 0} (R : A → B → Type 0) (xs : List A) (ys : List B) (y : B) → AllZip R xs ys → Contains ys y → (x : A) × (Contains xs x × R x y)
zip_from R [] [] y a c = absurd (none_in y c)
zip_from R [] (z ∷ ys) y a c = absurd a
zip_from R (x ∷ xs) [] y a c = absurd a
zip_from R (x ∷ xs) (z ∷ ys) y a c = elim (in_cons z ys y c) [
  | inl e ↦ (x, (Contains-here x xs, subst (R x) (sym e) a.0))
  | inr d ↦ let t = zip_from R xs ys y a.1 d in (t.0, (in_tail x xs t.0 t.1.0, t.1.1))
]

-- a list without one of its indices
pub data Index (i j : ℕ) : Type 0 where
  less : j < i → Index i j
  at : i ≡ j → Index i j
  more : i < j → Index i j

pub index : (i j : ℕ) → Index i j
index zero zero = at refl
index zero (suc j) = more (omega arith)
index (suc i) zero = less (omega arith)
index (suc i) (suc j) = elim (index i j) [ less h ↦ less (omega arith) | at e ↦ at (ap suc e) | more h ↦ more (omega arith) ]

pub in_rest : {X : Type 0} (xs : List X) (i j : ℕ) (d : X) → i < length xs → j < length xs → i ≢ j → Contains (remove xs i) (get_or xs j d)
in_rest xs i j d hi hj n =
    let e = get_or xs j d in let l = length-remove xs i hi in
    elim (index i j) [
      | less h ↦ (j, omega (arith, l), get_or-remove_below xs i e j h hi ∙ get_or_default xs j e d hj)
      | at q ↦ absurd (n q)
      | more h ↦ (
        j - 1,
        omega (arith, l),
        get_or-remove_above xs i e (j - 1) (omega arith) hi ∙ ap (λ k. get_or xs k e) (let q : j - 1 + 1 ≡ j = omega arith in
            q) ∙ get_or_default xs j e d hj,
      )
    ]

-- where it stood
pub record StoodAt {X : Type 0} (xs : List X) (i : ℕ) (x : X) : Type 0 where
  pub j : ℕ
  pub inside : j < length xs
  pub other : i ≢ j
  pub is : get_or xs j x ≡ x

pub stood : {X : Type 0} (xs : List X) (i : ℕ) (x : X) → i < length xs → Contains (remove xs i) x → StoodAt xs i x
stood xs i x hi (k, l, e) =
    let m = length-remove xs i hi in
    elim (index i k) [
      | less h ↦ record { j = k; inside = omega arith; other = λ q. omega arith; is = sym (get_or-remove_below xs i x k h hi) ∙ e }
      | at q ↦ record { j = k + 1; inside = omega (arith, m); other = λ r. omega arith; is = sym (get_or-remove_above xs i x k (omega arith) hi) ∙ e }
      | more h ↦ record { j = k + 1; inside = omega (arith, m); other = λ r. omega arith; is = sym (get_or-remove_above xs i x k (omega arith) hi) ∙ e }
    ]

pub of_rest : {X : Type 0} (xs : List X) (i : ℕ) (x : X) → i < length xs → Contains (remove xs i) x → Contains xs x
of_rest xs i x hi c = let s = stood xs i x hi c in (s.j, s.inside, s.is)

pub rest_cover : {X : Type 0} (xs : List X) (i : ℕ) (d x : X) → i < length xs → Contains xs x → Contains (remove xs i) x ⊎ Contains (get_or xs i d ∷ []) x
rest_cover {X} xs i d x hi (k, l, e) = elim (index i k) [
  | less h ↦ inl (subst (Contains (remove xs i)) e (in_rest xs i k x hi l (λ q. omega arith)))
  | at q ↦ inr (zero, omega arith, get_or_default xs i d x hi ∙ ap (λ t. get_or xs t x) q ∙ e)
  | more h ↦ inl (subst (Contains (remove xs i)) e (in_rest xs i k x hi l (λ q. omega arith)))
]
