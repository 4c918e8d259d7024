-- Each marked set has an arrangement: its members, ascending by their marks, those with the same mark in their order.
-- To cite: arrangement, arranged_set. The rest are steps.
use Rattle.std.proofs.Common.{◌≡◌, ℕ, zero, suc, ◌+◌, ◌<◌, Bool, true, false, cond, not, List, [], ◌∷◌, length, filter, get_or, arith, refl, sym, ap}
use Rattle.std.proofs.Common.{◌∙◌}
use Rattle.std.proofs.Common.{subst, IsPermutation, IsSortedBy}
use Rattle.std.specs.Cmp.{IsStrictWeakOrder}
use Rattle.std.specs.List.Sorted.{ties, IsStableBy}
use Rattle.std.specs.Ordering.{is_lt}
use Rattle.std.proofs.lemmas.Bool.{and_parts}
use Rattle.std.proofs.lemmas.List.Sorted.{IsPermutation-refl, IsPermutation-sym, IsPermutation-cons, IsPermutation-trans, IsPermutation-middle}
use Rattle.gf_exponents_theory.specs.Orders.{lex}
use Rattle.gf_poly.specs.Marking.{MarkedPolynomial, MarkedPolynomials, IsArranged}
use Rattle.gf_poly.proofs.MarkingLaws.{by_head}

not_true : (b : Bool) → not b ≡ true → b ≡ false
not_true true e = absurd (let q : false ≡ true = e in cc)
not_true false e = refl

module _ {X : Type 0} (lt : X → X → Bool) (order : IsStrictWeakOrder lt) where
  -- x in front of the first element that isn't below it
  abbrev inserted : X → List X → List X
  inserted x [] = x ∷ []
  inserted x (y ∷ ys) = cond (lt y x) (y ∷ inserted x ys) (x ∷ y ∷ ys)

  -- ---- ascending

  abbrev IsFirst : X → List X → Type 0
  IsFirst x [] = Unit {0}
  IsFirst x (y ∷ ys) = lt y x ≡ false

  abbrev Ascends : List X → Type 0
  Ascends [] = Unit {0}
  Ascends (x ∷ xs) = IsFirst x xs × Ascends xs

  first_inserted : (y x : X) (ys : List X) → lt y x ≡ true → IsFirst y ys → IsFirst y (inserted x ys)
  first_inserted y x [] e f = order.one_way y x e
  first_inserted y x (z ∷ zs) e f = at (lt z x)
    where
      at : (b : Bool) → IsFirst y (cond b (z ∷ inserted x zs) (x ∷ z ∷ zs))
      at true = f
      at false = order.one_way y x e

  ascends_inserted : (x : X) (ys : List X) → Ascends ys → Ascends (inserted x ys)
  ascends_inserted x [] a = (tt, tt)
  ascends_inserted x (y ∷ ys) a = at (lt y x) refl (ascends_inserted x ys a.1)
    where
      at : (b : Bool) → lt y x ≡ b → Ascends (inserted x ys) → Ascends (cond b (y ∷ inserted x ys) (x ∷ y ∷ ys))
      at true e h = (first_inserted y x ys e a.0, h)
      at false e h = (e, a)

  next_above : (xs : List X) → Ascends xs → (k : ℕ) (d : X) → suc k < length xs → lt (get_or xs (suc k) d) (get_or xs k d) ≡ false
  next_above [] a k d l = absurd (omega (arith, l))
  next_above (x ∷ []) a k d l = absurd (omega (arith, l))
  next_above (x ∷ (y ∷ ys)) a zero d l = a.0
  next_above (x ∷ (y ∷ ys)) a (suc k) d l = next_above (y ∷ ys) a.1 k d (omega (arith, l))

  sorted_of : (xs : List X) → Ascends xs → IsSortedBy lt xs
  sorted_of xs a k d low l =
      let e : suc k ≡ k + 1 = omega arith in
      subst (λ (j : ℕ). lt (get_or xs j d) (get_or xs k d) ≡ false) e (next_above xs a k d (omega (arith, l)))

  -- ---- with the same elements

  permuted_inserted : (x : X) (ys : List X) → IsPermutation (x ∷ ys) (inserted x ys)
  permuted_inserted x [] = IsPermutation-refl (x ∷ [])
  permuted_inserted x (y ∷ ys) = at (lt y x) (permuted_inserted x ys)
    where
      at : (b : Bool) → IsPermutation (x ∷ ys) (inserted x ys) → IsPermutation (x ∷ y ∷ ys) (cond b (y ∷ inserted x ys) (x ∷ y ∷ ys))
      at true h = IsPermutation-trans (x ∷ y ∷ ys) (y ∷ x ∷ ys) (y ∷ inserted x ys)
          (IsPermutation-sym (y ∷ x ∷ ys) (x ∷ y ∷ ys) (IsPermutation-middle (y ∷ []) x ys)) (IsPermutation-cons y (x ∷ ys) (inserted x ys) h)
      at false h = IsPermutation-refl (x ∷ y ∷ ys)

  -- ---- those that tie in their order

  never_both : (z x y : X) → lt y x ≡ true → ties lt z x ≡ true → ties lt z y ≡ true → ⊥
  never_both z x y e f g =
      let p = and_parts (not (lt z x)) (not (lt x z)) f in
      let q = and_parts (not (lt z y)) (not (lt y z)) g in
      let r : lt y x ≡ false = order.chain y z x (not_true (lt y z) q.1) (not_true (lt z x) p.0) in
      let s : true ≡ false = sym e ∙ r in
      absurd (cc)

  stable_inserted : (z x : X) (ys : List X) → filter (ties lt z) (inserted x ys) ≡ filter (ties lt z) (x ∷ ys)
  stable_inserted z x [] = refl
  stable_inserted z x (y ∷ ys) = at (lt y x) refl (stable_inserted z x ys)
    where
      swapped : (b c : Bool) → (b ≡ true → c ≡ true → ⊥) →
          cond b (y ∷ cond c (x ∷ filter (ties lt z) ys) (filter (ties lt z) ys)) (cond c (x ∷ filter (ties lt z) ys) (filter (ties lt z) ys))
          ≡ cond c (x ∷ cond b (y ∷ filter (ties lt z) ys) (filter (ties lt z) ys)) (cond b (y ∷ filter (ties lt z) ys) (filter (ties lt z) ys))
      swapped true true n = absurd (n refl refl)
      swapped true false n = refl
      swapped false true n = refl
      swapped false false n = refl

      at : (b : Bool) → lt y x ≡ b → filter (ties lt z) (inserted x ys) ≡ filter (ties lt z) (x ∷ ys) →
          filter (ties lt z) (cond b (y ∷ inserted x ys) (x ∷ y ∷ ys)) ≡ filter (ties lt z) (x ∷ y ∷ ys)
      at true e h = ap (λ (l : List X). cond (ties lt z y) (y ∷ l) l) h ∙ swapped (ties lt z y) (ties lt z x) (λ p q. never_both z x y e q p)
      at false e h = refl

  -- ---- the arrangement

  pub record IsArrangement (xs ys : List X) : Type 0 where
    pub permuted : IsPermutation xs ys
    pub sorted : IsSortedBy lt ys
    pub stable : IsStableBy lt xs ys

  record Arranged (xs ys : List X) : Type 0 where
    permuted : IsPermutation xs ys
    ascends : Ascends ys
    stable : (z : X) → filter (ties lt z) ys ≡ filter (ties lt z) xs

  arranged_list : (xs : List X) → (ys : List X) × Arranged xs ys
  arranged_list [] = ([], record { permuted = IsPermutation-refl []; ascends = tt; stable = λ z. refl })
  arranged_list (x ∷ xs) =
      let h = arranged_list xs in (
        inserted x h.0,
        record {
          permuted = IsPermutation-trans (x ∷ xs) (x ∷ h.0) (inserted x h.0) (IsPermutation-cons x xs h.0 h.1.permuted) (permuted_inserted x h.0);
          ascends = ascends_inserted x h.0 h.1.ascends;
          stable = λ z. stable_inserted z x h.0 ∙ ap (λ (l : List X). cond (ties lt z x) (x ∷ l) l) (h.1.stable z);
        },
      )

  pub arrangement : (xs : List X) → (ys : List X) × IsArrangement xs ys
  arrangement xs = let h = arranged_list xs in (h.0, record { permuted = h.1.permuted; sorted = sorted_of h.0 h.1.ascends; stable = h.1.stable })

-- of a marked set
pub arranged_set : (s : MarkedPolynomials) → (t : MarkedPolynomials) × IsArranged s t
arranged_set s =
    let h = arrangement (λ (a b : MarkedPolynomial). is_lt (lex a.head b.head)) by_head s.items in (
      record { variables = s.variables; items = h.0 },
      record { variables = refl; members = h.1.permuted; ascending = h.1.sorted; stable = h.1.stable },
    )
