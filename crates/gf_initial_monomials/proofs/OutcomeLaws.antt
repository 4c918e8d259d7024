-- A list that is gone through until something fails. To cite: AllPass, pass_none, pass_more, pass_all, reached.
use Rattle.std.proofs.Common.{◌≡◌, ◌⊎◌, ℕ, ◌+◌, ◌<◌, ◌≤◌, List, [], ◌∷◌, ◌++◌, Contains, length, take, get_or, arith, sym, ap, ◌∙◌, subst, inl, inr}
use Rattle.std.proofs.lemmas.List.{take_more, take_all}
use Rattle.gf_int_theory.proofs.ListLaws.{Contains-last}
use Rattle.gf_initial_monomials.specs.Outcomes.{IsReached}

-- the first i pass
abbrev pub AllPass : {A : Type 0} → (A → Type 0) → List A → ℕ → Type 0
AllPass {A} P xs i = (y : A) → Contains (take i xs) y → P y

pub pass_none : {A : Type 0} (P : A → Type 0) (xs : List A) → AllPass P xs 0
pass_none P [] y c = absurd (omega (arith, c.1))
pass_none P (x ∷ xs) y c = absurd (omega (arith, c.1))

pub pass_more : {A : Type 0} (P : A → Type 0) (xs : List A) (i : ℕ) (x : A) → i < length xs → x ≡ get_or xs i x → P x → AllPass P xs i → AllPass P xs (i + 1)
pass_more {A} P xs i x l e p h y c =
    at (Contains-last (take i xs) x y (subst (λ (z : List A). Contains z y) (take_more xs i x l ∙ ap (λ (w : A). take i xs ++ w ∷ []) (sym e)) c))
  where
    at : Contains (take i xs) y ⊎ (y ≡ x) → P y
    at (inl k) = h y k
    at (inr q) = subst P (sym q) p

pub pass_all : {A : Type 0} (P : A → Type 0) (xs : List A) (i : ℕ) → length xs ≤ i → AllPass P xs i → (y : A) → Contains xs y → P y
pass_all {A} P xs i l h y c = h y (subst (λ (z : List A). Contains z y) (sym (take_all i xs l)) c)

pub reached : {A : Type 0} (P : A → Type 0) (xs : List A) (i : ℕ) (x : A) → i < length xs → x ≡ get_or xs i x → AllPass P xs i → IsReached P xs x
reached P xs i x l e h = record { index = i; inside = l; here = sym e; earlier = h }

-- what is reached is in the list
pub reached_in : {A : Type 0} (P : A → Type 0) (xs : List A) (x : A) → IsReached P xs x → Contains xs x
reached_in P xs x r = (r.index, r.inside, r.here)
