-- Terms and lists that are the same, lists up to an index. To cite: same_terms, same_more, same_all.
use Rattle.std.proofs.Common.{◌≡◌, ◌∙◌, ℕ, ◌+◌, ◌<◌, ◌≤◌, List, [], ◌∷◌, ◌++◌, length, take, get_or, sym, ap}
use Rattle.std.proofs.lemmas.List.{take_more, take_all}
use Rattle.gf_poly.specs.declared.Term.{Term}

-- terms with one coefficient and one monomial
pub same_terms : (x y : Term) → x.coef ≡ y.coef → x.mono ≡ y.mono → x ≡ y
same_terms x y p q = ap (λ c. record { coef = c; mono = x.mono }) p ∙ ap (λ (m : List ℕ). record { coef = y.coef; mono = m }) q

-- one element further
pub same_more : {A : Type 0} (xs ys : List A) (i : ℕ) (x y : A) → i < length xs → i < length ys → x ≡ get_or xs i x → y ≡ get_or ys i y → x ≡ y →
    take i xs ≡ take i ys → take (i + 1) xs ≡ take (i + 1) ys
same_more {A} xs ys i x y l m e f q h =
    take_more xs i x l ∙ ap (λ (w : A). take i xs ++ w ∷ []) (sym e ∙ q ∙ f) ∙ ap (λ (z : List A). z ++ get_or ys i y ∷ []) h ∙ sym (take_more ys i y m)

-- to the end
pub same_all : {A : Type 0} (xs ys : List A) (i : ℕ) → length xs ≤ i → length ys ≤ i → take i xs ≡ take i ys → xs ≡ ys
same_all xs ys i l m h = sym (take_all i xs l) ∙ h ∙ take_all i ys m
