-- Lists: what holds of each element, and of each that is contained.
use Rattle.std.proofs.Common.{◌≡◌, ◌⊎◌, ℕ, zero, suc, ◌<◌, ◌≤◌, List, [], ◌∷◌, ◌++◌, length, Contains, slice_index_or, max, arith, subst, inl, inr}
use Rattle.gf_int_theory.proofs.ListLaws.{Contains-here}
use Rattle.gf_poly.specs.Marking.{Each}

-- two lists, one after the other
pub Each-++ : {A : Type 0} (P : A → Type 0) (xs ys : List A) → Each P xs → Each P ys → Each P (xs ++ ys)
Each-++ P [] ys h k = k
Each-++ P (x ∷ xs) ys h k = (h.0, Each-++ P xs ys h.1 k)

-- what follows of each
pub Each-weaker : {A : Type 0} (P Q : A → Type 0) → ((x : A) → P x → Q x) → (xs : List A) → Each P xs → Each Q xs
Each-weaker P Q w [] h = tt
Each-weaker P Q w (x ∷ xs) h = (w x h.0, Each-weaker P Q w xs h.1)

-- and those after it
pub Contains-there : {A : Type 0} (x y : A) (xs : List A) → Contains xs y → Contains (x ∷ xs) y
Contains-there x y xs c = (suc c.0, omega (arith, c.1), c.2)

-- what holds of all that are contained holds of each
pub each_contained : {A : Type 0} (P : A → Type 0) (xs : List A) → ((x : A) → Contains xs x → P x) → Each P xs
each_contained P [] h = tt
each_contained P (x ∷ xs) h = (h x (Contains-here x xs), each_contained P xs (λ y c. h y (Contains-there x y xs c)))

-- and back
pub contained_each : {A : Type 0} (P : A → Type 0) (xs : List A) → Each P xs → (x : A) → Contains xs x → P x
contained_each {A} P xs h x c = at xs c.0 h c.1 c.2
  where
    at : (xs : List A) (k : ℕ) → Each P xs → k < length xs → slice_index_or xs k x ≡ x → P x
    at [] k h l e = absurd (omega arith)
    at (y ∷ xs) zero h l e = subst P e h.0
    at (y ∷ xs) (suc k) h l e = at xs k h.1 (omega arith) e

-- an element is the first, or one of the rest
pub Contains-cases : {A : Type 0} (x y : A) (xs : List A) → Contains (x ∷ xs) y → (x ≡ y) ⊎ Contains xs y
Contains-cases {A} x y xs c = at c.0 c.1 c.2
  where
    at : (k : ℕ) → k < length (x ∷ xs) → slice_index_or (x ∷ xs) k y ≡ y → (x ≡ y) ⊎ Contains xs y
    at zero l e = inl e
    at (suc k) l e = inr (k, omega arith, e)

-- numbers that bound each element one by one have one that bounds all
pub collect : {A : Type 0} (P : A → ℕ → Type 0) → ((a : A) (k l : ℕ) → k ≤ l → P a k → P a l) → (xs : List A) →
    Each (λ a. (k : ℕ) × P a k) xs → (k : ℕ) × Each (λ a. P a k) xs
collect P up [] h = (0, tt)
collect P up (x ∷ xs) h = at h.0 (collect P up xs h.1)
  where
    at : ((k : ℕ) × P x k) → ((k : ℕ) × Each (λ a. P a k) xs) → (k : ℕ) × Each (λ a. P a k) (x ∷ xs)
    at r s = (
      max r.0 s.0,
      (
        up x r.0 (max r.0 s.0) (omega arith) r.1,
        Each-weaker (λ a. P a s.0) (λ a. P a (max r.0 s.0))
            (λ a p. up a s.0 (max r.0 s.0) (omega arith) p) xs s.1,
      ),
    )
