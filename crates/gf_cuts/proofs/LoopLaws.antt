-- Lists made in loops, one element further.
use Rattle.std.proofs.Common.{◌≡◌, ℕ, ◌+◌, ◌<◌, List, [], ◌∷◌, ◌++◌, length, map, take, get_or, ℤ, append_assoc, sym, ap, ◌∙◌, subst, All}
use Rattle.std.specs.List.{AllZip}
use Rattle.std.proofs.lemmas.List.{take_more, map-append}
use Rattle.std.proofs.lemmas.List.Elements.{All-push}
use Rattle.gf_int_theory.specs.Range.{InRange}
use Rattle.gf_vec.specs.Vector.{dot}
use Rattle.gf_cuts.specs.Heights.{heights}

pub map_next : {X Y : Type 0} (f : X → Y) (xs : List X) (i : ℕ) (x : X) → i < length xs → x ≡ get_or xs i x →
    map f (take (i + 1) xs) ≡ map f (take i xs) ++ f x ∷ []
map_next f xs i x l e =
    ap (map f) (take_more xs i x l) ∙ map-append f (take i xs) (get_or xs i x ∷ []) ∙ ap (λ z. map f (take i xs) ++ f z ∷ []) (sym e)

pub mapped_more : {X Y : Type 0} (f : X → Y) (xs : List X) (i : ℕ) (x : X) (y : Y) (out new : List Y) → i < length xs → x ≡ get_or xs i x → y ≡ f x →
    new ≡ out ++ y ∷ [] → out ≡ map f (take i xs) → new ≡ map f (take (i + 1) xs)
mapped_more f xs i x y out new l e q n s =
    n ∙ ap (λ z. z ++ y ∷ []) s ∙ ap (λ z. map f (take i xs) ++ z ∷ []) q ∙ sym (map_next f xs i x l e)

pub behind_more : {X Y : Type 0} (f : X → Y) (xs : List X) (i : ℕ) (x : X) (y : Y) (front out new : List Y) → i < length xs → x ≡ get_or xs i x → y ≡ f x →
    new ≡ out ++ y ∷ [] → out ≡ front ++ map f (take i xs) → new ≡ front ++ map f (take (i + 1) xs)
behind_more f xs i x y front out new l e q n s =
    n ∙ ap (λ z. z ++ y ∷ []) s ∙ append_assoc front (map f (take i xs)) (y ∷ []) ∙ ap (λ z. front ++ (map f (take i xs) ++ z ∷ [])) q
    ∙ ap (λ z. front ++ z) (sym (map_next f xs i x l e))

pub heights_more : (xs : List (List ℤ)) (a x : List ℤ) (i : ℕ) (out new : List ℤ) (z : ℤ) → i < length xs → x ≡ get_or xs i x → new ≡ out ++ z ∷ [] →
    z ≡ dot a x → InRange z → (out ≡ heights (take i xs) a) × All InRange out → (new ≡ heights (take (i + 1) xs) a) × All InRange new
heights_more xs a x i out new z l e n q r s = (mapped_more (dot a) xs i x z out new l e q n s.0, subst (All InRange) (sym n) (All-push InRange out z s.1 r))

-- ---- related lists

zip_push : {X Y : Type 0} (R : X → Y → Type 0) (xs : List X) (ys : List Y) (x : X) (y : Y) → AllZip R xs ys → R x y → AllZip R (xs ++ x ∷ []) (ys ++ y ∷ [])
zip_push R [] [] x y a r = (r, tt)
zip_push R [] (z ∷ ys) x y a r = absurd a
zip_push R (z ∷ xs) [] x y a r = absurd a
zip_push R (z ∷ xs) (w ∷ ys) x y a r = (a.0, zip_push R xs ys x y a.1 r)

pub zip_more : {X Y : Type 0} (R : X → Y → Type 0) (xs : List X) (i : ℕ) (x d : X) (out new : List Y) (y : Y) → i < length xs → x ≡ get_or xs i d →
    new ≡ out ++ y ∷ [] → R x y → AllZip R (take i xs) out → AllZip R (take (i + 1) xs) new
zip_more R xs i x d out new y l e n r a = subst (AllZip R (take (i + 1) xs)) (sym n)
    (subst (λ z. AllZip R z (out ++ y ∷ [])) (sym (take_more xs i d l ∙ ap (λ z. take i xs ++ z ∷ []) (sym e))) (zip_push R (take i xs) out x y a r))
