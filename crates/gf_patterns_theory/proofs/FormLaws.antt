-- The pattern of a polynomial at w is the list of exponents of its initial form by w.
use Rattle.std.proofs.Common.{◌≡◌, ◌≢◌, ℕ, List, [], ◌∷◌, length, map, ℤ, pos, ◌+ℤ◌, ◌-ℤ◌, ◌*ℤ◌, ◌<ℤ◌, ◌≤ℤ◌, arith, sym, refl, ap, ◌∙◌, Contains}
use Rattle.std.proofs.lemmas.Int.{ints}
use Rattle.gf_int_theory.proofs.RingLaws.{same, dv, ◌⊗◌, ◌⊕◌}
use Rattle.gf_int_theory.proofs.SignLaws.{sign_of, negative, none, positive}
use Rattle.gf_frac.specs.Fraction.{zero_ℚ}
use Rattle.gf_exponents_theory.specs.Exponents.{Exponents, whole_weight}
use Rattle.gf_exponents_theory.proofs.WholeWeightLaws.{whole_weight-same}
use Rattle.gf_vec.specs.Vector.{dot}
use Rattle.gf_poly.specs.Polynomial.{Terms, HasVariables, IsDescending, coefficient}
use Rattle.gf_poly.specs.InitialForms.{IsOfGreatestWeight, IsInitialForm}
use Rattle.gf_poly.specs.declared.Term.{Term}
use Rattle.gf_poly.proofs.CoefficientLaws.{coefficient-contains}
use Rattle.gf_poly.proofs.MarkingLaws.{nonzero_at}
use Rattle.gf_poly.proofs.ProductLaws.{HasVariables-at}
use Rattle.gf_poly.proofs.InitialFormLaws.{occurs}
use Rattle.gf_patterns_theory.specs.Patterns.{IsHighest, points}
use Rattle.gf_patterns_theory.proofs.PointLaws.{in_points, of_points}

weight_dot : (w : List ℤ) (x : Exponents) → whole_weight w x ≡ dot (map pos x) w
weight_dot [] [] = refl
weight_dot [] (a ∷ x) = refl
weight_dot (b ∷ w) [] = refl
weight_dot (b ∷ w) (a ∷ x) = ap (λ z. b *ℤ pos a +ℤ z) (weight_dot w x) ∙ same (dv b ⊗ dv (pos a) ⊕ dv (dot (map pos x) w))
    (dv (pos a) ⊗ dv b ⊕ dv (dot (map pos x) w)) (omega arith)

nonzero_in : (n : ℕ) (f : Terms) (t : Term) → HasVariables n f → IsDescending f → Contains f t → coefficient f t.mono ≢ zero_ℚ
nonzero_in n f t v d (i, l, e) z =
    let width : length t.mono ≡ n = HasVariables-at n f i t l (sym e) v in
    nonzero_at f i t l (sym e) d (sym (coefficient-contains n f t v d (i, l, e) width) ∙ z)

-- a term is highest exactly where it is one of greatest weight
pub highest_greatest : (n : ℕ) (w : List ℤ) (f : Terms) (t : Term) → HasVariables n f → IsDescending f → Contains f t →
    (IsHighest (points f) w (map pos t.mono) → IsOfGreatestWeight w f t.mono) × (IsOfGreatestWeight w f t.mono → IsHighest (points f) w (map pos t.mono))
highest_greatest n w f t v d k = (
  (λ h y nz.
      let o = occurs f y nz in
      let p = h.highest (map pos o.0.mono) (in_points f o.0 o.1) in
      let a = whole_weight-same w y o.0.mono o.2 in let b = weight_dot w o.0.mono in let c = weight_dot w t.mono in
      omega (arith, ints, p, a, b, c)),
  (λ h. record {
    listed = in_points f t k;
    highest = λ b kb.
        let o = of_points f b kb in
        let p = h o.0.mono (nonzero_in n f o.0 v d o.1.0) in
        let e : dot b w ≡ dot (map pos o.0.mono) w = ap (λ z. dot z w) o.1.1 in
        let q = weight_dot w o.0.mono in let c = weight_dot w t.mono in
        omega (arith, ints, p, e, q, c);
  }),
)

not_less : (x y : ℤ) → (x <ℤ y → ⊥) → y ≤ℤ x
not_less x y h = elim (sign_of (x -ℤ y)) [
  | negative g ↦ absurd (h (omega (arith, ints, g)))
  | none g ↦ omega (arith, ints, g)
  | positive g ↦ omega (arith, ints, g)
]

-- a term of f is in the pattern at w exactly where the initial form has it
pub pattern_form : (n : ℕ) (w : List ℤ) (f h : Terms) (t : Term) → HasVariables n f → IsDescending f → IsInitialForm w f h → Contains f t →
    (IsHighest (points f) w (map pos t.mono) → coefficient h t.mono ≢ zero_ℚ) × (coefficient h t.mono ≢ zero_ℚ → IsHighest (points f) w (map pos t.mono))
pattern_form n w f h t v d i k = (
  (λ p z. nonzero_in n f t v d k (sym (i.heaviest t.mono ((highest_greatest n w f t v d k).0 p)) ∙ z)),
  (λ nz. (highest_greatest n w f t v d k).1 (λ y ny. not_less (whole_weight w t.mono) (whole_weight w y) (λ l. nz (i.lighter t.mono y ny l)))),
)
