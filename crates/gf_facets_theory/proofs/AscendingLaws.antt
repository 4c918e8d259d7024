-- Ascending lists of vectors.
-- To cite: ascends_more, ascends_at, same_ascending.
use Rattle.std.proofs.Common.{◌≡◌, ℕ, zero, suc, ◌<◌, List, [], ◌∷◌, ◌++◌, length, ℤ, Contains, get_or, arith, refl, sym, ap₂, ◌∙◌, subst, inl, inr}
use Rattle.std.proofs.lemmas.List.{get_or_default}
use Rattle.std.proofs.lemmas.List.Elements.{Contains-append_cases}
use Rattle.gf_int_theory.proofs.ListLaws.{Contains-here}
use Rattle.gf_ideal_theory.proofs.ListLaws.{Contains-there, Contains-cases}
use Rattle.gf_facets_theory.specs.LexPositive.{IsBefore}
use Rattle.gf_facets_theory.specs.Normals.{Ascends}
use Rattle.gf_facets_theory.proofs.VectorOrder.{before_strict}

-- an ascending list and one more behind it
pub ascends_more : (xs : List (List ℤ)) (x : List ℤ) → Ascends xs → ((y : List ℤ) → Contains xs y → IsBefore y x) → Ascends (xs ++ x ∷ [])
ascends_more [] x p f = ((λ y c. absurd (omega (arith, c.1))), tt)
ascends_more (y ∷ xs) x p f = (
  λ z c. elim (Contains-append_cases xs (x ∷ []) z c) [
    | inl a ↦ p.0 z a
    | inr b ↦ elim (Contains-cases x z [] b) [ inl e ↦ subst (IsBefore y) e (f y (Contains-here y xs)) | inr k ↦ absurd (omega (arith, k.1)) ]
  ],
  ascends_more xs x p.1 (λ z c. f z (Contains-there y z xs c)),
)

-- an earlier member of an ascending list is before a later one
pub ascends_at : (ns : List (List ℤ)) (i j : ℕ) → Ascends ns → i < j → j < length ns → IsBefore (get_or ns i []) (get_or ns j [])
ascends_at [] i j p l m = absurd (omega (arith, m))
ascends_at (x ∷ ns) i zero p l m = absurd (omega (arith, l))
ascends_at (x ∷ ns) zero (suc j) p l m = p.0 (get_or ns j []) (j, omega (arith, m), get_or_default ns j _ [] (omega (arith, m)))
ascends_at (x ∷ ns) (suc i) (suc j) p l m = ascends_at ns i j p.1 (omega (arith, l)) (omega (arith, m))

-- ascending lists with the same members are one
pub same_ascending : (xs ys : List (List ℤ)) → Ascends xs → Ascends ys → ((x : List ℤ) → Contains xs x → Contains ys x) →
    ((x : List ℤ) → Contains ys x → Contains xs x) → xs ≡ ys
same_ascending [] [] p q f g = refl
same_ascending [] (y ∷ ys) p q f g = let c = g y (Contains-here y ys) in absurd (omega (arith, c.1))
same_ascending (x ∷ xs) [] p q f g = let c = f x (Contains-here x xs) in absurd (omega (arith, c.1))
same_ascending (x ∷ xs) (y ∷ ys) p q f g =
    let e : x ≡ y = elim (Contains-cases y x ys (f x (Contains-here x xs))) [
      | inl e ↦ sym e
      | inr c ↦ elim (Contains-cases x y xs (g y (Contains-here y ys))) [
        | inl e ↦ e
        | inr d ↦ absurd (before_strict.irreflexive x (before_strict.transitive x y x (p.0 y d) (q.0 x c)))
      ]
    ] in
    let rest : xs ≡ ys = same_ascending xs ys p.1 q.1
    (λ z c. elim (Contains-cases y z ys (f z (Contains-there x z xs c))) [
      | inr d ↦ d
      | inl i ↦ absurd (before_strict.irreflexive x (subst (IsBefore x) (sym (e ∙ i)) (p.0 z c)))
    ])
    (λ z c. elim (Contains-cases x z xs (g z (Contains-there y z ys c))) [
      | inr d ↦ d
      | inl i ↦ absurd (before_strict.irreflexive y (subst (IsBefore y) (sym (sym e ∙ i)) (q.0 z c)))
    ]) in
    ap₂ (λ (u : List ℤ) (us : List (List ℤ)). u ∷ us) e rest
