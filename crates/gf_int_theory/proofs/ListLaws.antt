-- Lists: what is contained in them, what holds of each element, and of joined lists.
use Rattle.std.proofs.Common.{◌≡◌, ◌⊎◌, ℕ, zero, suc, ◌<◌, List, [], ◌∷◌, ◌++◌, length, All, Contains, slice_index_or, get_or, arith, refl, sym, inl, inr}
use Rattle.std.specs.List.{AllByRecursion}
use Rattle.std.proofs.lemmas.List.{get_or_default}

-- the first is contained
pub Contains-here : {A : Type 0} (x : A) (xs : List A) → Contains (x ∷ xs) x
Contains-here x xs = (0, omega arith, refl)

-- what is contained in a list and one more is in the list, or the one
pub Contains-last : {A : Type 0} (xs : List A) (x y : A) → Contains (xs ++ x ∷ []) y → Contains xs y ⊎ (y ≡ x)
Contains-last {A} xs x y h = at xs h.0 h.1 h.2
  where
    at : (xs : List A) (i : ℕ) → i < length (xs ++ x ∷ []) → slice_index_or (xs ++ x ∷ []) i y ≡ y →
        Contains xs y ⊎ (y ≡ x)
    at [] zero l e = inr (sym e)
    at [] (suc i) l e = absurd (omega arith)
    at (z ∷ xs) zero l e = inl (0, omega arith, e)
    at (z ∷ xs) (suc i) l e = elim (at xs i (omega arith) e) [ inl k ↦ inl (suc k.0, omega (arith, k.1), k.2) | inr q ↦ inr q ]

-- what holds of each that is contained holds of all
pub all_by : {X : Type 0} (P : X → Type 0) (xs : List X) → ((x : X) → Contains xs x → P x) → All P xs
all_by P xs f = λ k d h. f (get_or xs k d) (k, h, get_or_default xs k (get_or xs k d) d h)

pub all_join : {X : Type 0} (P : X → Type 0) (xs ys : List X) → AllByRecursion P xs → AllByRecursion P ys → AllByRecursion P (xs ++ ys)
all_join P [] ys h k = k
all_join P (x ∷ xs) ys h k = (h.0, all_join P xs ys h.1 k)

pub all_back : {X : Type 0} (P : X → Type 0) (xs ys : List X) → AllByRecursion P (xs ++ ys) → AllByRecursion P ys
all_back P [] ys h = h
all_back P (x ∷ xs) ys h = all_back P xs ys h.1
