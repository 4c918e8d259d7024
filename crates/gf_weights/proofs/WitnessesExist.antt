-- A marked list has its printed weight, and the facets that a flip may cross, each with its printed witness.
-- To cite: weight_exists, facets_exist. The rest are steps.
use Rattle.std.proofs.Common.{◌≡◌, ◌⊎◌, ℕ, zero, suc, ◌+◌, ◌<◌, ◌≤◌, List, [], ◌∷◌, ◌++◌, length, ℤ, arith, refl, sym, ◌∙◌, subst, inl, inr, append_assoc}
use Rattle.std.proofs.Common.{get_or}
use Rattle.std.proofs.lemmas.Bool.{cases_eq, cases_lt}
use Rattle.gf_vec.specs.Vector.{dot}
use Rattle.gf_poly.specs.Marking.{MarkedPolynomial}
use Rattle.gf_duality_theory.specs.Faces.{sum_of}
use Rattle.gf_duality_theory.specs.Rays.{IsRays}
use Rattle.gf_rays.specs.Cones.{RowsAndRays}
use Rattle.gf_rays.specs.Parts.{zeros_of}
use Rattle.gf_facets_theory.specs.Systems.{units}
use Rattle.gf_facets_theory.specs.Regions.{Region}
use Rattle.gf_facets_theory.specs.Normals.{AreNormals}
use Rattle.gf_facets_theory.specs.Facets.{IsFlippable}
use Rattle.gf_facets_theory.specs.MarkedBases.{AreCanonical}
use Rattle.gf_cone.specs.Cones.{ConeRows, normal_at}
use Rattle.gf_cone.proofs.AnswerLaws.{crossable_flippable}
use Rattle.gf_weights.specs.declared.certificates.FacetWitness.{FacetWitness}
use Rattle.gf_weights.specs.Weights.{IsWeightIn, AreWitnessedIn}
use Rattle.gf_weights.specs.Cuts.{IsCutOf, IsZeroAt, HasRayOff, AreWitnessedBefore}
use Rattle.gf_weights.proofs.CutLaws.{weight_is, witness_is}
use Rattle.gf_weights.proofs.CrossLaws.{crossing_of_rays, not_crossing}
use Rattle.gf_weights.proofs.FacetLoop.{facets_none, facets_passed, facets_next, facets_all}
use Rattle.gf_weights.proofs.RaysExist.{normals_exist, rays_exist}
use Rattle.gf_int_theory.proofs.SignLaws.{zero_or_not}

-- ---- which rows are zero on all rays on which another is

abbrev AreZeroToo : RowsAndRays → ℕ → ℕ → ℕ → Type 0
AreZeroToo r i k m = (j : ℕ) → j < m → IsZeroAt r i j → IsZeroAt r k j

off_or_not : (r : RowsAndRays) (i k m : ℕ) → ((j : ℕ) × (j < m) × IsZeroAt r i j × (IsZeroAt r k j → ⊥)) ⊎ AreZeroToo r i k m
off_or_not r i k zero = inr (λ j l z. absurd (omega (arith, l)))
off_or_not r i k (suc m) = elim (off_or_not r i k m) [
  | inl t ↦ inl (t.0, omega (arith, t.1), t.2, t.3)
  | inr all ↦
      let more : (IsZeroAt r i m → IsZeroAt r k m) → AreZeroToo r i k (suc m) = λ f j l z. elim (cases_lt j m) [
        | inl b ↦ all j b z
        | inr b ↦ let e : j ≡ m = omega (arith, l, b) in subst (IsZeroAt r k) (sym e) (f (subst (IsZeroAt r i) e z))
      ] in
      elim (zero_or_not (dot (get_or r.inequalities i []) (get_or r.rays m []))) [
        | inr out ↦ inr (more (λ z. absurd (out z)))
        | inl z ↦ elim (zero_or_not (dot (get_or r.inequalities k []) (get_or r.rays m []))) [
          | inl y ↦ inr (more (λ w. y))
          | inr out ↦ inl (m, omega arith, z, out)
        ]
      ]
]

others_or_one : (r : RowsAndRays) (i m : ℕ) → ((k : ℕ) → k < m → (k ≡ i → ⊥) → HasRayOff r i k) ⊎ ((k : ℕ) × (k < m) × (k ≡ i → ⊥) × AreZeroToo r i k
    (length r.rays))
others_or_one r i zero = inl (λ k l ne. absurd (omega (arith, l)))
others_or_one r i (suc m) = elim (others_or_one r i m) [
  | inr t ↦ inr (t.0, omega (arith, t.1), t.2, t.3)
  | inl all ↦
      let more : ((m ≡ i → ⊥) → HasRayOff r i m) → (k : ℕ) → k < suc m → (k ≡ i → ⊥) → HasRayOff r i k = λ f k l ne. elim (cases_lt k m) [
        | inl b ↦ all k b ne
        | inr b ↦ let e : k ≡ m = omega (arith, l, b) in subst (HasRayOff r i) (sym e) (f (λ q. ne (e ∙ q)))
      ] in
      elim (cases_eq m i) [
        | inl e ↦ inl (more (λ ne. absurd (ne e)))
        | inr ne ↦ elim (off_or_not r i m (length r.rays)) [
          | inl t ↦ inl (more (λ q. t))
          | inr z ↦ inr (m, omega arith, ne, z)
        ]
      ]
]

-- ---- the cut cone of a marked list

module _ (n : ℕ) (region : Region) (bs : List MarkedPolynomial) (can : AreCanonical n bs) where
  abbrev normals : (ns : List (List ℤ)) × AreNormals bs ns
  normals = normals_exist bs

  abbrev rays : (rs : List (List ℤ)) × IsRays n (normals.0 ++ (region.rows ++ units n n)) [] [] rs
  rays = let r = rays_exist n (normals.0 ++ region.rows) in (
    r.0,
    subst (λ (z : List (List ℤ)). IsRays n z [] [] r.0)
        (append_assoc normals.0 region.rows (units n n)) r.1,
  )

  abbrev cone : ConeRows
  cone = record { variables = n; normals = normals.0; beside = region.rows ++ units n n }

  abbrev cut : RowsAndRays
  cut = record { ambient = n; inequalities = normals.0 ++ (region.rows ++ units n n); equations = []; lineality = []; rays = rays.0; implied = [] }

  is_cut : IsCutOf n region bs cone cut
  is_cut = record {
    cone = record { variables = refl; canonical = can; normals = normals.1; beside = refl };
    rays = record { ambient = refl; rows = refl; rays = rays.1 };
  }

  pub weight_exists : (v : List ℤ) × IsWeightIn n region bs v
  weight_exists = (sum_of n rays.0, weight_is n region bs cone cut (sum_of n rays.0) is_cut refl)

  flippable_or_not : (i : ℕ) → i < length cone.normals → IsFlippable n region bs (normal_at cone i) ⊎ (IsFlippable n region bs (normal_at cone i) → ⊥)
  flippable_or_not i l =
      let told = crossable_flippable n region bs cone i l is_cut.cone in
      elim (others_or_one cut i (length cut.inequalities)) [
        | inl off ↦ inl (told.0 (crossing_of_rays cone cut i is_cut.rays l off))
        | inr t ↦ inr (λ f. not_crossing cone cut i t.0 is_cut.rays l t.1 t.2 t.3 (told.1 f))
      ]

  facets_to : (i : ℕ) → i ≤ length cone.normals → (fs : List FacetWitness) × AreWitnessedBefore n region bs cone i fs
  facets_to zero l = ([], facets_none n region bs cone [] refl)
  facets_to (suc i) l =
      let h = facets_to i (omega (arith, l)) in
      let one : i + 1 ≡ suc i = omega arith in
      elim (flippable_or_not i (omega (arith, l))) [
        | inl flip ↦
            let a : List ℤ = normal_at cone i in
            let f : FacetWitness = record { normal = a; witness = sum_of n (zeros_of a rays.0) } in (
              h.0 ++ f ∷ [],
              subst (λ m. AreWitnessedBefore n region bs cone m (h.0 ++ f ∷ [])) one
                  (facets_next n region bs cone i h.0 (h.0 ++ f ∷ []) f is_cut.cone (omega (arith, l)) refl flip
                  (witness_is n region bs cone cut a (sum_of n (zeros_of a rays.0)) is_cut refl) refl h.1),
            )
        | inr not ↦ (h.0, subst (λ m. AreWitnessedBefore n region bs cone m h.0) one (facets_passed n region bs cone i h.0 not h.1))
      ]

  pub facets_exist : (fs : List FacetWitness) × AreWitnessedIn n region bs fs
  facets_exist = let h = facets_to (length cone.normals) (omega arith) in
      (h.0, facets_all n region bs cone (length cone.normals) h.0 is_cut.cone (omega arith) h.1)
