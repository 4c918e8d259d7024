-- Two lists, element by element.
-- To cite: zip_more, zip_there, zip_back.
use Rattle.std.specs.Prelude.{◌≡◌, ◌⊎◌, ℕ, ◌+◌, ◌<◌, List, [], ◌∷◌, ◌++◌, length, take, Contains}
use Rattle.std.specs.List.{AllZip}
use Rattle.std.proofs.Common.{arith, sym, ap, ◌∙◌, subst, get_or, inl, inr}
use Rattle.std.proofs.lemmas.List.{take_more}
use Rattle.std.proofs.lemmas.Slice.Zip.{all_zipped_more}
use Rattle.gf_int_theory.proofs.ListLaws.{Contains-here}
use Rattle.gf_ideal_theory.proofs.ListLaws.{Contains-cases, Contains-there}

-- one further of each
pub zip_more : {A B : Type 0} (R : A → B → Type 0) (xs : List A) (ys next : List B) (i : ℕ) (x : A) (y : B) → i < length xs → x ≡ get_or xs i x → R x y →
    next ≡ ys ++ y ∷ [] → AllZip R (take i xs) ys → AllZip R (take (i + 1) xs) next
zip_more {A} {B} R xs ys next i x y l e r q a =
    let more : take (i + 1) xs ≡ take i xs ++ x ∷ [] = take_more xs i x l ∙ ap (λ (z : A). take i xs ++ z ∷ []) (sym e) in
    subst (λ (zs : List A). AllZip R zs next) (sym more) (subst (AllZip R (take i xs ++ x ∷ [])) (sym q) (all_zipped_more R (take i xs) ys x y a r))

-- one of the first has its partner
pub zip_there : {A B : Type 0} (R : A → B → Type 0) (xs : List A) (ys : List B) (x : A) → AllZip R xs ys → Contains xs x → (y : B) × Contains ys y × R x y
zip_there R [] [] x a c = absurd (omega (arith, c.1))
zip_there R [] (y ∷ ys) x a c = absurd a
zip_there R (z ∷ xs) [] x a c = absurd a
zip_there {A} {B} R (z ∷ xs) (y ∷ ys) x a c = at (Contains-cases z x xs c) (λ k. zip_there R xs ys x a.1 k)
  where
    at : (z ≡ x) ⊎ Contains xs x → (Contains xs x → (w : B) × Contains ys w × R x w) → (w : B) × Contains (y ∷ ys) w × R x w
    at (inl e) r = (y, Contains-here y ys, subst (λ (v : A). R v y) e a.0)
    at (inr k) r = let w = r k in (w.0, Contains-there y w.0 ys w.1, w.2)

-- and one of the second
pub zip_back : {A B : Type 0} (R : A → B → Type 0) (xs : List A) (ys : List B) (y : B) → AllZip R xs ys → Contains ys y → (x : A) × Contains xs x × R x y
zip_back R [] [] y a c = absurd (omega (arith, c.1))
zip_back R [] (z ∷ ys) y a c = absurd a
zip_back R (x ∷ xs) [] y a c = absurd a
zip_back {A} {B} R (x ∷ xs) (z ∷ ys) y a c = at (Contains-cases z y ys c) (λ k. zip_back R xs ys y a.1 k)
  where
    at : (z ≡ y) ⊎ Contains ys y → (Contains ys y → (w : A) × Contains xs w × R w y) → (w : A) × Contains (x ∷ xs) w × R w y
    at (inl e) r = (x, Contains-here x xs, subst (λ (v : B). R x v) e a.0)
    at (inr k) r = let w = r k in (w.0, Contains-there x w.0 xs w.1, w.2)
