-- Lists of numbers none of which is above that of another list, and thinned lists of indices.
use Rattle.std.proofs.Common.{◌≡◌, ◌≢◌, ℕ, ◌+◌, ◌<◌, List, [], ◌∷◌, ◌++◌, length, take, get_or, ℤ, arith, sym, refl, ap, ◌∙◌, subst, Contains, All, inl}
use Rattle.std.proofs.Common.{inr}
use Rattle.std.specs.List.Sorted.{IsPermutation}
use Rattle.std.proofs.lemmas.Int.{ints}
use Rattle.std.proofs.lemmas.List.{take_more, get_or_default}
use Rattle.std.proofs.lemmas.List.Elements.{All-contains, All-push, Contains-push}
use Rattle.std.proofs.lemmas.List.Sorted.{Contains-permutation, IsPermutation-sym}
use Rattle.gf_int_theory.proofs.ListLaws.{Contains-last, all_by}
use Rattle.gf_duality_theory.proofs.ListLaws.{none_in, first_in, index, less, at, more}
use Rattle.gf_cuts.specs.Heights.{IsBelow, row_at, IsThinned, AreIndicesBut}

pub below_refl : (xs : List ℤ) → IsBelow xs xs
below_refl xs = record { long = refl; up = λ k l. omega (arith, ints) }

pub below_trans : (xs ys zs : List ℤ) → IsBelow xs ys → IsBelow ys zs → IsBelow xs zs
below_trans xs ys zs p q = record {
  long = p.long ∙ q.long;
  up = λ k l. let e = p.long in let a = p.up k l in let b = q.up k (omega (arith, l, e)) in omega (arith, ints, a, b);
}

-- rows as they are read
pub below_at : (rows : List (List ℤ)) (x y : ℕ) (a b : List ℤ) → x < length rows → y < length rows → a ≡ get_or rows x a → b ≡ get_or rows y b →
    IsBelow a b → IsBelow (row_at rows x) (row_at rows y)
below_at rows x y a b lx ly e f p = subst (λ z. IsBelow z (row_at rows y)) (e ∙ get_or_default rows x a [] lx)
    (subst (IsBelow a) (f ∙ get_or_default rows y b [] ly) p)

pub index_in : (xs : List ℕ) (i : ℕ) → i < length xs → Contains xs (get_or xs i 0)
index_in xs i l = (i, l, get_or_default xs i (get_or xs i 0) 0 l)

pub index_inside : (n : ℕ) (xs : List ℕ) (i : ℕ) → i < length xs → All (λ x. x < n) xs → get_or xs i 0 < n
index_inside n xs i l a = a i 0 l

pub more_inside : (n : ℕ) (xs new : List ℕ) (x : ℕ) → new ≡ xs ++ x ∷ [] → x < n → All (λ x. x < n) xs → All (λ x. x < n) new
more_inside n xs new x e l a = subst (All (λ x. x < n)) (sym e) (All-push (λ x. x < n) xs x a l)

-- ---- thinned lists, one index further

next_index : (indices : List ℕ) (x k : ℕ) → k < length indices → x ≡ get_or indices k 0 → take (k + 1) indices ≡ take k indices ++ x ∷ []
next_index indices x k l e = take_more indices k 0 l ∙ ap (λ z. take k indices ++ z ∷ []) (sym e)

pub thin_none : (rows : List (List ℤ)) → IsThinned rows [] []
thin_none rows = record { each = λ y c. absurd (none_in y c); every = λ x c. absurd (none_in x c) }

pub thin_left : (rows : List (List ℤ)) (indices kept : List ℕ) (x k : ℕ) → k < length indices → x ≡ get_or indices k 0 →
    (y : ℕ) × (Contains kept y × IsBelow (row_at rows x) (row_at rows y)) → IsThinned rows (take k indices) kept → IsThinned rows (take (k + 1) indices) kept
thin_left rows indices kept x k l e y t = subst (λ z. IsThinned rows z kept) (sym (next_index indices x k l e)) (record {
  each = λ z c. first_in (take k indices) x z (t.each z c);
  every = λ z c. elim (Contains-last (take k indices) x z c) [
    | inl i ↦ t.every z i
    | inr q ↦ subst (λ w. (y : ℕ) × (Contains kept y × IsBelow (row_at rows w) (row_at rows y))) (sym q) y
  ];
})

pub thin_kept : (rows : List (List ℤ)) (indices kept new : List ℕ) (x k : ℕ) → k < length indices → x ≡ get_or indices k 0 → new ≡ kept ++ x ∷ [] →
    IsThinned rows (take k indices) kept → IsThinned rows (take (k + 1) indices) new
thin_kept rows indices kept new x k l e n t =
    subst (λ z. IsThinned rows (take (k + 1) indices) z) (sym n) (subst (λ z. IsThinned rows z (kept ++ x ∷ [])) (sym (next_index indices x k l e)) (record {
      each = λ z c. elim (Contains-last kept x z c) [
        | inl i ↦ first_in (take k indices) x z (t.each z i)
        | inr q ↦ subst (Contains (take k indices ++ x ∷ [])) (sym q) (Contains-push (take k indices) x)
      ];
      every = λ z c. elim (Contains-last (take k indices) x z c) [
        | inl i ↦ let y = t.every z i in (y.0, (first_in kept x y.0 y.1.0, y.1.1))
        | inr q ↦ (x, (Contains-push kept x, subst (λ w. IsBelow (row_at rows w) (row_at rows x)) (sym q) (below_refl (row_at rows x))))
      ];
    }))

-- thinned once more, in another order
pub thin_again : (rows : List (List ℤ)) (indices first turned out : List ℕ) → IsPermutation first turned → IsThinned rows indices first →
    IsThinned rows turned out → IsThinned rows indices out
thin_again rows indices first turned out p a b = record {
  each = λ y c. a.each y (Contains-permutation turned first y (IsPermutation-sym first turned p) (b.each y c));
  every = λ x c.
      let y = a.every x c in
      let z = b.every y.0 (Contains-permutation first turned y.0 p y.1.0) in
      (z.0, (z.1.0, below_trans (row_at rows x) (row_at rows y.0) (row_at rows z.0) y.1.1 z.1.1));
}

pub thin_inside : (rows : List (List ℤ)) (indices kept : List ℕ) (n : ℕ) → All (λ x. x < n) indices → IsThinned rows indices kept → All (λ x. x < n) kept
thin_inside rows indices kept n a t = all_by (λ x. x < n) kept (λ y c. All-contains (λ x. x < n) indices y a (t.each y c))

pub turned_inside : (n : ℕ) (xs ys : List ℕ) → IsPermutation xs ys → All (λ x. x < n) xs → All (λ x. x < n) ys
turned_inside n xs ys p a = all_by (λ x. x < n) ys (λ y c. All-contains (λ x. x < n) xs y a (Contains-permutation ys xs y (IsPermutation-sym xs ys p) c))

-- ---- the indices below a number

pub below_more : (k : ℕ) (out new : List ℕ) → new ≡ out ++ k ∷ [] → All (λ x. x < k) out → All (λ x. x < k + 1) new
below_more k out new n a = subst (All (λ x. x < k + 1)) (sym n) (all_by (λ x. x < k + 1) (out ++ k ∷ []) (λ x c. elim (Contains-last out k x c) [
  | inl i ↦ let l : x < k = All-contains (λ x. x < k) out x a i in omega (arith, l)
  | inr e ↦ omega (arith, e)
]))

pub every_more : (k : ℕ) (out new : List ℕ) → new ≡ out ++ k ∷ [] → ((j : ℕ) → j < k → Contains out j) → (j : ℕ) → j < k + 1 → Contains new j
every_more k out new n f j l = subst (λ z. Contains z j) (sym n) (elim (index k j) [
  | less g ↦ first_in out k j (f j g)
  | at g ↦ subst (Contains (out ++ k ∷ [])) g (Contains-push out k)
  | more g ↦ absurd (omega (arith, g, l))
])

-- ---- the indices below a number but one

pub but_none : (but : ℕ) → AreIndicesBut 0 but []
but_none but = record { each = λ k c. absurd (none_in k c); every = λ k l o. absurd (omega (arith, l)) }

pub but_left : (k but : ℕ) (out : List ℕ) → k ≡ but → AreIndicesBut k but out → AreIndicesBut (k + 1) but out
but_left k but out e p = record {
  each = λ j c. let r = p.each j c in let l = r.0 in (omega (arith, l), r.1);
  every = λ j l o. elim (index k j) [
    | less g ↦ p.every j g o
    | at g ↦ absurd (o (sym g ∙ e))
    | more g ↦ absurd (omega (arith, g, l))
  ];
}

pub but_more : (k but : ℕ) (out new : List ℕ) → k ≢ but → new ≡ out ++ k ∷ [] → AreIndicesBut k but out → AreIndicesBut (k + 1) but new
but_more k but out new d n p = subst (AreIndicesBut (k + 1) but) (sym n) (record {
  each = λ j c. elim (Contains-last out k j c) [
    | inl i ↦ let r = p.each j i in let l = r.0 in (omega (arith, l), r.1)
    | inr e ↦ (omega (arith, e), λ q. d (sym e ∙ q))
  ];
  every = λ j l o. elim (index k j) [
    | less g ↦ first_in out k j (p.every j g o)
    | at g ↦ subst (Contains (out ++ k ∷ [])) g (Contains-push out k)
    | more g ↦ absurd (omega (arith, g, l))
  ];
})
