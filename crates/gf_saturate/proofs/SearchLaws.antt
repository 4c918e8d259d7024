-- A list that is searched index by index. To cite: found_here, not_yet, nowhere.
use Rattle.std.proofs.Common.{◌≡◌, ◌⊎◌, ℕ, ◌+◌, ◌<◌, ◌≤◌, List, [], ◌∷◌, ◌++◌, Contains, length, take, get_or, sym, ap, ◌∙◌, subst, inl, inr}
use Rattle.std.proofs.lemmas.List.{take_more, take_all}
use Rattle.gf_int_theory.proofs.ListLaws.{Contains-last}

-- some member is so
abbrev pub HasSuch : {A : Type 0} → (A → Type 0) → List A → Type 0
HasSuch {A} P xs = (x : A) × Contains xs x × P x

pub found_here : {A : Type 0} (P : A → Type 0) (xs : List A) (i : ℕ) (x : A) → i < length xs → x ≡ get_or xs i x → P x → HasSuch P xs
found_here P xs i x l e p = (x, (i, l, sym e), p)

pub not_yet : {A : Type 0} (P : A → Type 0) (xs : List A) (i : ℕ) (x : A) → i < length xs → x ≡ get_or xs i x → (P x → ⊥) →
    (HasSuch P (take i xs) → ⊥) → HasSuch P (take (i + 1) xs) → ⊥
not_yet {A} P xs i x l e n h o =
    at (Contains-last (take i xs) x o.0 (subst (λ (z : List A). Contains z o.0) (take_more xs i x l ∙ ap (λ (y : A). take i xs ++ y ∷ []) (sym e)) o.1))
  where
    at : Contains (take i xs) o.0 ⊎ (o.0 ≡ x) → ⊥
    at (inl k) = h (o.0, k, o.2)
    at (inr q) = n (subst P q o.2)

pub nowhere : {A : Type 0} (P : A → Type 0) (xs : List A) (i : ℕ) → length xs ≤ i → (HasSuch P (take i xs) → ⊥) → HasSuch P xs → ⊥
nowhere {A} P xs i l h o = h (subst (HasSuch P) (sym (take_all i xs l)) o)
