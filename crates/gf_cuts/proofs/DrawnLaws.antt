-- Parts of cones whose rows are those of the cones, and differences of points.
use Rattle.std.proofs.Common.{◌≡◌, ℕ, List, [], ◌∷◌, ◌++◌, map, ℤ, sym, ap, ◌∙◌, subst, Contains, inl, inr}
use Rattle.std.proofs.lemmas.List.{map-append}
use Rattle.std.proofs.lemmas.List.Elements.{Contains-append_right, Contains-append_cases}
use Rattle.gf_int_theory.proofs.ListLaws.{Contains-here}
use Rattle.gf_duality_theory.specs.Faces.{Rows}
use Rattle.gf_duality_theory.proofs.ListLaws.{none_in, in_cons, first_in}
use Rattle.gf_rays.specs.Cones.{RowsAndRays, rows_of}
use Rattle.gf_levels_theory.specs.Generators.{AreOuter}
use Rattle.gf_cuts.specs.Drawn.{IsDifferenceOf, HasRow, IsDrawnFrom, AreDrawnFrom}

-- ---- one part

pub drawn_itself : (A : List (List ℤ)) (c : Rows) → IsDrawnFrom A c c
drawn_itself A c h k = inl k

pub drawn_then : (A : List (List ℤ)) (c p q : Rows) → IsDrawnFrom A c p → IsDrawnFrom A p q → IsDrawnFrom A c q
drawn_then A c p q f g h k = elim (g h k) [ inl i ↦ f h i | inr d ↦ inr d ]

-- with more inequalities
pub drawn_over : (A : List (List ℤ)) (c p : Rows) (rows given : List (List ℤ)) → ((h : List ℤ) → Contains rows h → IsDifferenceOf A h) → given ≡ rows →
    p.inequalities ≡ c.inequalities ++ given → p.equations ≡ c.equations → IsDrawnFrom A c p
drawn_over A c p rows given d s e f h (inl k) = elim (Contains-append_cases c.inequalities given h (subst (λ (z : List (List ℤ)). Contains z h) e k)) [
  | inl i ↦ inl (inl i)
  | inr j ↦ inr (d h (subst (λ (z : List (List ℤ)). Contains z h) s j))
]
drawn_over A c p rows given d s e f h (inr k) = inl (inr (subst (λ (z : List (List ℤ)). Contains z h) f k))

-- with one equation more
pub drawn_tie : (A : List (List ℤ)) (c p : Rows) (t : List ℤ) (given : List (List ℤ)) → IsDifferenceOf A t → given ≡ t ∷ [] →
    p.inequalities ≡ c.inequalities → p.equations ≡ c.equations ++ given → IsDrawnFrom A c p
drawn_tie A c p t given d s e f h (inl k) = inl (inl (subst (λ (z : List (List ℤ)). Contains z h) e k))
drawn_tie A c p t given d s e f h (inr k) = elim (Contains-append_cases c.equations given h (subst (λ (z : List (List ℤ)). Contains z h) f k)) [
  | inl i ↦ inl (inr i)
  | inr j ↦ elim (in_cons t [] h (subst (λ (z : List (List ℤ)). Contains z h) s j)) [
    | inl q ↦ inr (subst (IsDifferenceOf A) (sym q) d)
    | inr o ↦ absurd (none_in h o)
  ]
]

-- ---- several parts

pub drawn_none : (A : List (List ℤ)) (cs : List Rows) (out : List RowsAndRays) → out ≡ [] → AreDrawnFrom A cs (map rows_of out)
drawn_none A cs out e = record { each = λ p k. absurd (none_in p (subst (λ (z : List RowsAndRays). Contains (map rows_of z) p) e k)) }

pub drawn_alone : (A : List (List ℤ)) (c : RowsAndRays) (out : List RowsAndRays) → out ≡ c ∷ [] → AreDrawnFrom A (rows_of c ∷ []) (map rows_of out)
drawn_alone A c out e = record {
  each = λ p k. elim (in_cons (rows_of c) [] p (subst (λ (z : List RowsAndRays). Contains (map rows_of z) p) e k)) [
    | inl q ↦ (rows_of c, (Contains-here (rows_of c) [], λ h i. inl (subst (λ (z : Rows). HasRow z h) q i)))
    | inr o ↦ absurd (none_in p o)
  ];
}

pub drawn_joined : (A : List (List ℤ)) (cs : List Rows) (old more out : List RowsAndRays) → out ≡ old ++ more → AreDrawnFrom A cs (map rows_of old) →
    AreDrawnFrom A cs (map rows_of more) → AreDrawnFrom A cs (map rows_of out)
drawn_joined A cs old more out e f g = record {
  each = λ p k. elim (Contains-append_cases (map rows_of old) (map rows_of more) p
      (subst (λ (z : List Rows). Contains z p) (ap (map rows_of) e ∙ map-append rows_of old more) k)) [ inl i ↦ f.each p i | inr j ↦ g.each p j ];
}

pub drawn_push : (A : List (List ℤ)) (c : Rows) (old out : List RowsAndRays) (p : RowsAndRays) → out ≡ old ++ p ∷ [] → IsDrawnFrom A c (rows_of p) →
    AreDrawnFrom A (c ∷ []) (map rows_of old) → AreDrawnFrom A (c ∷ []) (map rows_of out)
drawn_push A c old out p e d f = drawn_joined A (c ∷ []) old (p ∷ []) out e f (record {
  each = λ q k. elim (in_cons (rows_of p) [] q k) [
    | inl s ↦ (c, (Contains-here c [], λ h i. d h (subst (λ (z : Rows). HasRow z h) s i)))
    | inr o ↦ absurd (none_in q o)
  ];
})

-- of parts of a part
pub drawn_below : (A : List (List ℤ)) (c p : Rows) (ps : List Rows) → IsDrawnFrom A c p → AreDrawnFrom A (p ∷ []) ps → AreDrawnFrom A (c ∷ []) ps
drawn_below A c p ps d f = record {
  each = λ q k.
      let r = f.each q k in
      elim (in_cons p [] r.0 r.1.0) [
        | inl e ↦ (c, (Contains-here c [], drawn_then A c p q d (subst (λ (z : Rows). IsDrawnFrom A z q) e r.1.1)))
        | inr o ↦ absurd (none_in r.0 o)
      ];
}

-- some of the parts
pub drawn_outer : (n : ℕ) (A : List (List ℤ)) (cs ps kept : List Rows) → AreOuter n ps kept → AreDrawnFrom A cs ps → AreDrawnFrom A cs kept
drawn_outer n A cs ps kept o f = record { each = λ p k. f.each p (o.each p k) }

-- of one cone more
pub drawn_next : (A : List (List ℤ)) (cones : List RowsAndRays) (c : RowsAndRays) (old more out : List RowsAndRays) → out ≡ old ++ more →
    AreDrawnFrom A (map rows_of cones) (map rows_of old) → AreDrawnFrom A (rows_of c ∷ []) (map rows_of more) →
    AreDrawnFrom A (map rows_of (cones ++ c ∷ [])) (map rows_of out)
drawn_next A cones c old more out e f g = subst (λ (z : List Rows). AreDrawnFrom A z (map rows_of out)) (sym (map-append rows_of cones (c ∷ [])))
    (drawn_joined A (map rows_of cones ++ rows_of c ∷ []) old more out e
    (record { each = λ p k. let r = f.each p k in (r.0, (first_in (map rows_of cones) (rows_of c) r.0 r.1.0, r.1.1)) })
    (record { each = λ p k. let r = g.each p k in (r.0, (Contains-append_right (map rows_of cones) (rows_of c ∷ []) r.0 r.1.0, r.1.1)) }))
