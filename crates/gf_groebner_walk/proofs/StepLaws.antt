-- The facets that lead towards a weight, among the normals that a program keeps.
-- To cite: not_crossed, NoneBefore, leads_more, facet_there, nowhere, facet_read.
use Rattle.std.proofs.Common.{◌≡◌, ℕ, ◌+◌, ◌<◌, ◌≤◌, Bool, true, false, List, [], length, get_or, ℤ, Option, None, arith, sym, ap, ◌∙◌, subst, inl, inr}
use Rattle.std.proofs.lemmas.Bool.{cases_lt, false≢true}
use Rattle.std.proofs.lemmas.List.{get_or_default}
use Rattle.gf_poly.specs.Marking.{MarkedPolynomial}
use Rattle.gf_facets_theory.specs.Regions.{Region}
use Rattle.gf_cone.specs.Cones.{ConeRows, normal_at, IsConeOf}
use Rattle.gf_cone.specs.Crossing.{IsCrossingDecided}
use Rattle.gf_reverse_theory.specs.Upward.{LeadsTowards}
use Rattle.gf_groebner_walk.specs.Steps.{IsLeadTold, IsFacetTold}
use Rattle.gf_groebner_walk.specs.declared.steps.Towards.{Towards}
use Rattle.gf_groebner_walk.specs.declared.steps.Towards.TheVariants.{Nowhere, Facet}

-- no facet that can't be crossed leads towards r
pub not_crossed : (r : List ℤ) (c : ConeRows) (i : ℕ) (o : Option (List ℤ)) → IsCrossingDecided c i o → o ≡ None → IsLeadTold r c i false
not_crossed r c i o d e = λ n k bs is. (λ t. absurd (false≢true t), λ l. absurd (subst (IsCrossingDecided c i) e d n k bs is l.flippable))

-- ---- the first one

-- none of the first ones leads towards r
abbrev pub NoneBefore : List ℤ → ConeRows → ℕ → Type 0
NoneBefore r c i = (j : ℕ) → j < i → (n : ℕ) (k : Region) (bs : List MarkedPolynomial) → IsConeOf n k bs c → LeadsTowards n k r bs (normal_at c j) → ⊥

pub leads_more : (r : List ℤ) (c : ConeRows) (i : ℕ) (b : Bool) → IsLeadTold r c i b → b ≡ false → NoneBefore r c i → NoneBefore r c (i + 1)
leads_more r c i b t e h j l n k bs is u = elim (cases_lt j i) [
  | inl s ↦ h j s n k bs is u
  | inr g ↦ (let q : j ≡ i = omega arith in absurd (false≢true (sym e ∙ (t n k bs is).1 (subst (λ (z : ℕ). LeadsTowards n k r bs (normal_at c z)) q u))))
]

pub facet_there : (r : List ℤ) (c : ConeRows) (i : ℕ) (b : Bool) → i < length c.normals → IsLeadTold r c i b → b ≡ true → IsFacetTold r c (Facet i)
facet_there r c i b l t e = (l, λ n k bs is. (t n k bs is).0 e)

pub nowhere : (r : List ℤ) (c : ConeRows) (i : ℕ) → length c.normals ≤ i → NoneBefore r c i → IsFacetTold r c Nowhere
nowhere r c i l h = λ n k bs is a u. (
    let p = is.normals.all a u.flippable.inside.normal in
    h p.0 (omega (arith, l, p.1)) n k bs is (subst (LeadsTowards n k r bs) (sym (get_or_default c.normals p.0 [] a p.1 ∙ p.2)) u))

-- ---- as a program reads it

pub facet_read : (r : List ℤ) (c : ConeRows) (t : Towards) (i : ℕ) (given : List (List ℤ)) (x : List ℤ) → IsFacetTold r c t → t ≡ Facet i → given ≡ c.normals →
    x ≡ get_or given i x → (n : ℕ) (k : Region) (bs : List MarkedPolynomial) → IsConeOf n k bs c → LeadsTowards n k r bs x
facet_read r c t i given x h e q s n k bs is =
    let f = subst (IsFacetTold r c) e h in
    subst (LeadsTowards n k r bs) (sym (s ∙ ap (λ (z : List (List ℤ)). get_or z i x) q ∙ get_or_default c.normals i x [] f.0)) (f.1 n k bs is)
