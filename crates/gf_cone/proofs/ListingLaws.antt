-- Ascending lists of vectors: a vector put in, the normals collected, the others of one.
-- To cite: lower_through, higher_at, index_between, is_in, inserted, gathers_none, gathers_one, gathers_append, has_small, gathered.
use Rattle.std.specs.List.{insert}
use Rattle.std.specs.Ordering.{int_cmp, MatchOrdering}
use Rattle.std.specs.Cmp.Lexicographic.{slice_cmp}
use Rattle.std.specs.declared.cmp.Ordering.{Ordering}
use Rattle.std.specs.declared.cmp.Ordering.TheVariants.{Less, Equal, Greater}
use Rattle.std.proofs.Common.{◌≡◌, ◌⊎◌, ◌↔◌, ℕ, zero, suc, ◌+◌, ◌<◌, ◌≤◌, List, [], ◌∷◌, ◌++◌, length, All, Contains, ℤ, ◌<ℤ◌, take, arith, sym, ap, ◌∙◌, subst}
use Rattle.std.proofs.Common.{inl, inr, get_or}
use Rattle.std.proofs.lemmas.Bool.{cases_lt}
use Rattle.std.proofs.lemmas.List.{take_more, take_all, get_or_default}
use Rattle.std.proofs.lemmas.List.Elements.{All-contains, Contains-append_left, Contains-append_right, Contains-append_cases}
use Rattle.gf_int_theory.proofs.ListLaws.{Contains-here, all_by}
use Rattle.gf_vec.specs.Primitive.{IsPrimitivePart}
use Rattle.gf_poly.specs.Marking.{MarkedPolynomial}
use Rattle.gf_facets_theory.proofs.ListLaws.{Contains-there, Contains-cases}
use Rattle.gf_reverse_search.specs.Path.{Precedes}
use Rattle.gf_facets_theory.specs.Rows.{rows_of_polynomials}
use Rattle.gf_facets_theory.proofs.PrimitiveLaws.{primitive_unique}
use Rattle.gf_facets_theory.proofs.VectorOrder.{vectors_compare, before_strict}
use Rattle.gf_facets_theory.specs.Normals.{Ascends, AreNormals}
use Rattle.gf_cone.specs.Small.{IsSmall}
use Rattle.gf_cone.specs.Placing.{GoesInAt, Gathers}

-- ---- the index of a vector

-- all of the first i come before v
abbrev pub AreLower : List ℤ → ℕ → List (List ℤ) → Type 0
AreLower v i xs = (y : List ℤ) → Contains (take i xs) y → Precedes ◌<ℤ◌ y v

compared : (x v : List ℤ) (o : Ordering) → o ≡ slice_cmp int_cmp x v → MatchOrdering o (Precedes ◌<ℤ◌ x v) (x ≡ v) (Precedes ◌<ℤ◌ v x)
compared x v o e = subst (λ (p : Ordering). MatchOrdering p (Precedes ◌<ℤ◌ x v) (x ≡ v) (Precedes ◌<ℤ◌ v x)) (sym e) (vectors_compare x v)

index_more : (v x : List ℤ) (xs : List (List ℤ)) (i : ℕ) (o : Ordering) → i < length xs → x ≡ get_or xs i x → o ≡ slice_cmp int_cmp x v → o ≡ Less →
    AreLower v i xs → AreLower v (i + 1) xs
index_more v x xs i o l e c q h y k = at (Contains-append_cases (take i xs) (x ∷ []) y
    (subst (λ (z : List (List ℤ)). Contains z y) (take_more xs i x l ∙ ap (λ (z : List ℤ). take i xs ++ z ∷ []) (sym e)) k))
  where
    below : Precedes ◌<ℤ◌ x v
    below = subst (λ (p : Ordering). MatchOrdering p (Precedes ◌<ℤ◌ x v) (x ≡ v) (Precedes ◌<ℤ◌ v x)) q (compared x v o c)

    at : Contains (take i xs) y ⊎ Contains (x ∷ []) y → Precedes ◌<ℤ◌ y v
    at (inl m) = h y m
    at (inr m) = elim (Contains-cases x y [] m) [ inl f ↦ subst (λ (z : List ℤ). Precedes ◌<ℤ◌ z v) f below | inr n ↦ absurd (omega (arith, n.1)) ]

placed : (v x : List ℤ) (xs : List (List ℤ)) (i : ℕ) → i < length xs → x ≡ get_or xs i x → Precedes ◌<ℤ◌ v x → AreLower v i xs → GoesInAt v i xs
placed v x [] i l e p h = absurd (omega arith)
placed v x (y ∷ xs) zero l e p h = subst (Precedes ◌<ℤ◌ v) e p
placed v x (y ∷ xs) (suc i) l e p h = (h y (Contains-here y (take i xs)), placed v x xs i (omega arith) e p (λ z k. h z (Contains-there y z (take i xs) k)))

pub is_in : (v x : List ℤ) (xs : List (List ℤ)) (i : ℕ) (o : Ordering) → i < length xs → x ≡ get_or xs i x → o ≡ slice_cmp int_cmp x v → o ≡ Equal →
    Contains xs v
is_in v x xs i o l e c q = subst (Contains xs) (subst (λ (p : Ordering). MatchOrdering p (Precedes ◌<ℤ◌ x v) (x ≡ v) (Precedes ◌<ℤ◌ v x)) q (compared x v o c))
    (i, l, sym e)

ended : (v : List ℤ) (xs : List (List ℤ)) → ((y : List ℤ) → Contains xs y → Precedes ◌<ℤ◌ y v) → GoesInAt v (length xs) xs
ended v [] h = tt
ended v (x ∷ xs) h = (h x (Contains-here x xs), ended v xs (λ y k. h y (Contains-there x y xs k)))

index_end : (v : List ℤ) (xs : List (List ℤ)) (i : ℕ) → length xs ≤ i → AreLower v i xs → GoesInAt v (length xs) xs
index_end v xs i l h = ended v xs (λ y k. h y (subst (λ (z : List (List ℤ)). Contains z y) (sym (take_all i xs l)) k))

-- what stands before an index comes before what stands there
ascends_before : (xs : List (List ℤ)) (i : ℕ) (x y : List ℤ) → Ascends xs → i < length xs → x ≡ get_or xs i x → Contains (take i xs) y → Precedes ◌<ℤ◌ y x
ascends_before [] i x y h l e c = absurd (omega arith)
ascends_before (z ∷ xs) zero x y h l e c = absurd (omega (arith, c.1))
ascends_before (z ∷ xs) (suc i) x y h l e c = elim (Contains-cases z y (take i xs) c) [
  | inl f ↦ subst (λ (w : List ℤ). Precedes ◌<ℤ◌ w x) f (h.0 x (i, omega arith, sym e))
  | inr k ↦ ascends_before xs i x y h.1 (omega arith) e k
]

-- so in an ascending list all up to an index are lower, where what stands there is
pub lower_through : (v x : List ℤ) (xs : List (List ℤ)) (i : ℕ) (o : Ordering) → Ascends xs → i < length xs → x ≡ get_or xs i x → o ≡ slice_cmp int_cmp x v →
    o ≡ Less → AreLower v (i + 1) xs
lower_through v x xs i o h l e c q = index_more v x xs i o l e c q (λ y k. before_strict.transitive y x v (ascends_before xs i x y h l e k) below)
  where
    below : Precedes ◌<ℤ◌ x v
    below = subst (λ (p : Ordering). MatchOrdering p (Precedes ◌<ℤ◌ x v) (x ≡ v) (Precedes ◌<ℤ◌ v x)) q (compared x v o c)

-- what stands at the index i, if anything does, comes after v
pub record IsHigher (v : List ℤ) (i : ℕ) (xs : List (List ℤ)) : Type 0 where
  pub at : (d : List ℤ) → i < length xs → Precedes ◌<ℤ◌ v (get_or xs i d)

pub higher_at : (v x : List ℤ) (xs : List (List ℤ)) (i : ℕ) (o : Ordering) → i < length xs → x ≡ get_or xs i x → o ≡ slice_cmp int_cmp x v → o ≡ Greater →
    IsHigher v i xs
higher_at v x xs i o l e c q = record { at = λ d m. subst (Precedes ◌<ℤ◌ v) (e ∙ get_or_default xs i x d l) above }
  where
    above : Precedes ◌<ℤ◌ v x
    above = subst (λ (p : Ordering). MatchOrdering p (Precedes ◌<ℤ◌ x v) (x ≡ v) (Precedes ◌<ℤ◌ v x)) q (compared x v o c)

-- between what is lower and what is higher
pub index_between : (v : List ℤ) (xs : List (List ℤ)) (low high : ℕ) → low ≡ high → high ≤ length xs → AreLower v low xs → IsHigher v high xs →
    GoesInAt v low xs
index_between v xs low high e m h k = at (cases_lt low (length xs))
  where
    at : (low < length xs) ⊎ (length xs ≤ low) → GoesInAt v low xs
    at (inl l) =
        let n : high < length xs = omega arith in
        placed v (get_or xs low []) xs low l (get_or_default xs low [] (get_or xs low []) l) (subst (λ (i : ℕ). Precedes ◌<ℤ◌ v (get_or xs i [])) (sym e)
        (k.at [] n)) h
    at (inr g) = let q : length xs ≡ low = omega arith in subst (λ (i : ℕ). GoesInAt v i xs) q (index_end v xs low g h)

-- ---- a vector put in

pub index_inside : (v : List ℤ) (i : ℕ) (xs : List (List ℤ)) → GoesInAt v i xs → i ≤ length xs
index_inside v zero xs p = omega arith
index_inside v (suc i) [] p = absurd p
index_inside v (suc i) (x ∷ xs) p = omega (arith, index_inside v i xs p.1)

inserted_cases : (v a : List ℤ) (i : ℕ) (xs : List (List ℤ)) → GoesInAt v i xs → Contains (insert xs i v) a → (a ≡ v) ⊎ Contains xs a
inserted_cases v a zero xs p c = elim (Contains-cases v a xs c) [ inl e ↦ inl (sym e) | inr k ↦ inr k ]
inserted_cases v a (suc i) [] p c = absurd p
inserted_cases v a (suc i) (x ∷ xs) p c = elim (Contains-cases x a (insert xs i v) c) [
  | inl e ↦ inr (subst (Contains (x ∷ xs)) e (Contains-here x xs))
  | inr k ↦ elim (inserted_cases v a i xs p.1 k) [ inl e ↦ inl e | inr m ↦ inr (Contains-there x a xs m) ]
]

inserted_back : (v a : List ℤ) (i : ℕ) (xs : List (List ℤ)) → GoesInAt v i xs → (a ≡ v) ⊎ Contains xs a → Contains (insert xs i v) a
inserted_back v a zero xs p (inl e) = subst (Contains (v ∷ xs)) (sym e) (Contains-here v xs)
inserted_back v a zero xs p (inr k) = Contains-there v a xs k
inserted_back v a (suc i) [] p h = absurd p
inserted_back v a (suc i) (x ∷ xs) p (inl e) = Contains-there x a (insert xs i v) (inserted_back v a i xs p.1 (inl e))
inserted_back v a (suc i) (x ∷ xs) p (inr k) = elim (Contains-cases x a xs k) [
  | inl e ↦ subst (Contains (x ∷ insert xs i v)) e (Contains-here x (insert xs i v))
  | inr m ↦ Contains-there x a (insert xs i v) (inserted_back v a i xs p.1 (inr m))
]

inserted_ascends : (v : List ℤ) (i : ℕ) (xs : List (List ℤ)) → Ascends xs → GoesInAt v i xs → Ascends (insert xs i v)
inserted_ascends v zero [] h p = ((λ y c. absurd (omega (arith, c.1))), tt)
inserted_ascends v zero (x ∷ xs) h p =
    ((λ y c. elim (Contains-cases x y xs c) [ inl e ↦ subst (Precedes ◌<ℤ◌ v) e p | inr k ↦ before_strict.transitive v x y p (h.0 y k) ]), h)
inserted_ascends v (suc i) [] h p = absurd p
inserted_ascends v (suc i) (x ∷ xs) h p = (
  (λ y c. elim (inserted_cases v y i xs p.1 c) [ inl e ↦ subst (Precedes ◌<ℤ◌ x) (sym e) p.0 | inr k ↦ h.0 y k ]),
  inserted_ascends v i xs h.1 p.1,
)

-- a list and what is put in
pub record HasMore (xs : List (List ℤ)) (v : List ℤ) (more : List (List ℤ)) : Type 0 where
  pub rises : Ascends more
  pub has : (a : List ℤ) → Contains more a ↔ ((a ≡ v) ⊎ Contains xs a)

pub inserted : (v : List ℤ) (i : ℕ) (xs more : List (List ℤ)) → Ascends xs → GoesInAt v i xs → more ≡ insert xs i v → HasMore xs v more
inserted v i xs more h p e =
    subst (HasMore xs v) (sym e) (record { rises = inserted_ascends v i xs h p; has = λ a. (inserted_cases v a i xs p, inserted_back v a i xs p) })

-- ---- normals collected

pub gathers_none : (xs : List (List ℤ)) → Ascends xs → Gathers xs [] xs
gathers_none xs h = record { rises = h; has = λ a. (inl, λ k. elim k [ inl c ↦ c | inr t ↦ absurd (omega (arith, t.1.1)) ]) }

-- one row more
pub gathers_one : (xs more : List (List ℤ)) (t v : List ℤ) → IsPrimitivePart t v → HasMore xs v more → Gathers xs (t ∷ []) more
gathers_one xs more t v p m = record { rises = m.rises; has = λ a. (only a, back a) }
  where
    only : (a : List ℤ) → Contains more a → Contains xs a ⊎ ((s : List ℤ) × Contains (t ∷ []) s × IsPrimitivePart s a)
    only a c = elim ((m.has a).0 c) [ inl q ↦ inr (t, Contains-here t [], subst (IsPrimitivePart t) (sym q) p) | inr k ↦ inl k ]

    back : (a : List ℤ) → Contains xs a ⊎ ((s : List ℤ) × Contains (t ∷ []) s × IsPrimitivePart s a) → Contains more a
    back a (inl k) = (m.has a).1 (inr k)
    back a (inr s) = elim (Contains-cases t s.0 [] s.1) [
      | inl f ↦ (m.has a).1 (inl (primitive_unique s.0 a v s.2 (subst (λ (z : List ℤ). IsPrimitivePart z v) f p)))
      | inr n ↦ absurd (omega (arith, n.1))
    ]

-- more rows after others
pub gathers_append : (xs r s ys zs : List (List ℤ)) → Gathers xs r ys → Gathers ys s zs → Gathers xs (r ++ s) zs
gathers_append xs r s ys zs g h = record { rises = h.rises; has = λ a. (only a, back a) }
  where
    earlier : (a : List ℤ) → Contains ys a → Contains xs a ⊎ ((t : List ℤ) × Contains (r ++ s) t × IsPrimitivePart t a)
    earlier a c = elim ((g.has a).0 c) [ inl k ↦ inl k | inr t ↦ inr (t.0, Contains-append_left r s t.0 t.1, t.2) ]

    only : (a : List ℤ) → Contains zs a → Contains xs a ⊎ ((t : List ℤ) × Contains (r ++ s) t × IsPrimitivePart t a)
    only a c = elim ((h.has a).0 c) [ inl k ↦ earlier a k | inr t ↦ inr (t.0, Contains-append_right r s t.0 t.1, t.2) ]

    back : (a : List ℤ) → Contains xs a ⊎ ((t : List ℤ) × Contains (r ++ s) t × IsPrimitivePart t a) → Contains zs a
    back a (inl k) = (h.has a).1 (inl ((g.has a).1 (inl k)))
    back a (inr t) = elim (Contains-append_cases r s t.0 t.1) [
      | inl k ↦ (h.has a).1 (inl ((g.has a).1 (inr (t.0, k, t.2))))
      | inr k ↦ (h.has a).1 (inr (t.0, k, t.2))
    ]

-- a small vector more leaves a list small
pub has_small : (xs more : List (List ℤ)) (v : List ℤ) → IsSmall v → All IsSmall xs → HasMore xs v more → All IsSmall more
has_small xs more v s k m = all_by IsSmall more (λ a c. elim ((m.has a).0 c) [ inl e ↦ subst IsSmall (sym e) s | inr n ↦ All-contains IsSmall xs a k n ])

-- the primitive parts of all rows
pub gathered : (bs : List MarkedPolynomial) (all : List (List ℤ)) → Gathers [] (rows_of_polynomials bs) all → AreNormals bs all
gathered bs all g = record {
  rises = g.rises;
  only = λ a c. elim ((g.has a).0 c) [ inl n ↦ absurd (omega (arith, n.1)) | inr t ↦ t ];
  all = λ a n. (g.has a).1 (inr n);
}
