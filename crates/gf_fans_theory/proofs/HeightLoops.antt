-- Loops over parts and numbers, one further.
use Rattle.std.proofs.Common.{◌≡◌, ℕ, ◌+◌, ◌-◌, ◌<◌, List, [], ◌∷◌, ◌++◌, length, arith, sym, ap, ◌∙◌, subst, Contains, ◌⊎◌, inl, inr, get_or}
use Rattle.std.proofs.lemmas.List.{get_or_default, get_or_append_left, get_or-append_right, length-append}
use Rattle.std.proofs.lemmas.List.Quantifiers.{all_pairs_push}
use Rattle.gf_duality_theory.proofs.ListLaws.{index, less, at, more, first_in}
use Rattle.gf_fans_theory.specs.Heights.{AreFirst, IsWithinPart, IsNextBelow, IsHeight, AreHeights}
use Rattle.std.proofs.lemmas.List.Elements.{Contains-push}
use Rattle.gf_int_theory.proofs.ListLaws.{Contains-last}

-- ---- the first part, all numbers

pub first_more : (n : ℕ) (out new : List ℕ) → new ≡ out ++ n ∷ [] → AreFirst n out → AreFirst (n + 1) new
first_more n out new e s = subst (AreFirst (n + 1)) (sym e) (record {
  ascending = all_pairs_push (λ i j. i < j) out n s.ascending (λ j d h. s.each (get_or out j d) (j, h, get_or_default out j (get_or out j d) d h));
  each = λ i c. elim (Contains-last out n i c) [ inl a ↦ let h = s.each i a in omega (arith, h) | inr q ↦ omega (arith, q) ];
  every = λ i h. elim (index i n) [
    | more k ↦ first_in out n i (s.every i k)
    | at q ↦ subst (Contains (out ++ n ∷ [])) (sym q) (Contains-push out n)
    | less k ↦ absurd (omega (arith, h, k))
  ];
})

-- ---- heights, one part further

pub record HeightsSoFar (least : ℕ) (parts : List (List ℕ)) (i : ℕ) (out : List ℕ) : Type 0 where
  pub long : length out ≡ i
  pub each : (j : ℕ) → j < i → IsHeight least parts out j

before_push : (out : List ℕ) (x j : ℕ) → j < length out → get_or (out ++ x ∷ []) j 0 ≡ get_or out j 0
before_push out x j h = get_or_append_left out (x ∷ []) 0 j h

pub heights_more : (least : ℕ) (parts : List (List ℕ)) (i x : ℕ) (out new : List ℕ) → new ≡ out ++ x ∷ [] →
    (((j : ℕ) → j < i → IsWithinPart parts j i → ⊥) × (x ≡ least)) ⊎ ((j : ℕ) × (IsNextBelow parts i j × (x ≡ get_or out j 0 + 1))) →
    HeightsSoFar least parts i out → HeightsSoFar least parts (i + 1) new
heights_more least parts i x out new e t s =
    let l = s.long in
    let last : get_or (out ++ x ∷ []) i 0 ≡ x = get_or-append_right out (x ∷ []) i i 0 l (omega arith) ∙ ap (λ k. get_or (x ∷ []) k 0) (let z : i - i ≡ 0 =
    omega arith in z) in
    subst (HeightsSoFar least parts (i + 1)) (sym e) (record {
      long = let a = length-append out (x ∷ []) in omega (arith, a, l);
      each = λ j h. elim (index j i) [
        | less k ↦ absurd (omega (arith, h, k))
        | more k ↦ elim (s.each j k) [
          | inl (none, q) ↦ inl (none, before_push out x j (omega (arith, k, l)) ∙ q)
          | inr (g, (below, q)) ↦
              inr (
                g,
                (
                  below,
                  before_push out x j (omega (arith, k, l)) ∙ q ∙
                      ap (λ z. z + 1) (sym (before_push out x g (let b = below.before in omega (arith, b, k, l)))),
                ),
              )
        ]
        | at k ↦ subst (IsHeight least parts (out ++ x ∷ [])) (sym k) (elim t [
          | inl (none, q) ↦ inl (none, last ∙ q)
          | inr (g, (below, q)) ↦ inr (g, (below, last ∙ q ∙ ap (λ z. z + 1) (sym (before_push out x g (let b = below.before in omega (arith, b, l))))))
        ])
      ];
    })

pub heights_done : (least : ℕ) (parts : List (List ℕ)) (i : ℕ) (out : List ℕ) → i ≡ length parts → HeightsSoFar least parts i out → AreHeights least parts out
heights_done least parts i out e s = record { long = s.long ∙ e; each = λ j h. s.each j (omega (arith, h, e)) }
