-- The item of a basis in the list of `_bases`: its text, and with certificates its printed weight and the facets that a flip may cross,
-- each with its printed witness.
-- Laws: proofs/CertificateLaws.antt.
use Rattle.std.specs.Prelude.{◌≡◌, ℕ, Bool, true, false, List, [], ◌∷◌, ◌++◌, ℤ, flat_map}
use Rattle.gf_poly.specs.Marking.{MarkedPolynomials}
use Rattle.gf_text.specs.PrintedSets.{basis_text}
use Rattle.gf_text.specs.VectorText.{vector_text}
use Rattle.gf_weights.specs.declared.certificates.FacetWitness.{FacetWitness}
use Rattle.gf_weights.specs.declared.error.WeightError.{WeightError}
use Rattle.gf_facets_theory.specs.Regions.{Region}
use Rattle.gf_weights.specs.Weights.{IsWeightIn, AreWitnessedIn}
use Rattle.gf_weights.specs.Refusals.{IsCertificateCauseIn}
use Rattle.gf_front.specs.declared.refusal.Refusal.{Refusal}
use Rattle.gf_front.specs.declared.refusal.Refusal.TheVariants as refusals
use Rattle.gfan_common.specs.Causes.{of_weight_error}

-- ---- the text

-- a facet: its normal and its witness, with a comma between them, in braces
abbrev pub facet_text : FacetWitness → List ℕ
facet_text f = 123 ∷ (vector_text f.normal ++ 44 ∷ (vector_text f.witness ++ 125 ∷ []))

-- a comma, a line end, and a facet
abbrev pub later_facet_text : FacetWitness → List ℕ
later_facet_text f = 44 ∷ 10 ∷ facet_text f

-- facets, with a comma and a line end between them
abbrev pub facets_text : List FacetWitness → List ℕ
facets_text [] = []
facets_text (f ∷ fs) = facet_text f ++ flat_map later_facet_text fs

-- a line end, the weight, a line end, and the facets in braces
abbrev pub certificates_text : List ℤ → List FacetWitness → List ℕ
certificates_text weight facets = 10 ∷ (vector_text weight ++ 10 ∷ 123 ∷ (facets_text facets ++ 125 ∷ []))

-- the text is that of the certificates of a basis in a region: its printed weight, and exactly the facets that a flip may cross there, in
-- ascending order of their normals, each with its printed witness
pub record IsCertificatesTextIn (k : Region) (b : MarkedPolynomials) (text : List ℕ) : Type 0 where
  pub weight : List ℤ
  pub facets : List FacetWitness
  pub is_weight : IsWeightIn b.variables k b.items weight
  pub are_witnessed : AreWitnessedIn b.variables k b.items facets
  pub is_text : text ≡ certificates_text weight facets

-- the text is the item of a basis in the list of a region: the text of the basis, followed by its certificates if there are any
abbrev pub IsItemTextIn : Bool → List (List ℕ) → Region → MarkedPolynomials → List ℕ → Type 0
IsItemTextIn false ring k b text = text ≡ basis_text ring b.items
IsItemTextIn true ring k b text = (told : List ℕ) × IsCertificatesTextIn k b told × (text ≡ basis_text ring b.items ++ told)

-- ---- refusals

-- the certificates of a basis are refused: an operation of finding the rays of the intersection of its cone with the closed region, or of
-- adding rays, leaves its range; or memory runs out
abbrev pub IsUncertifiedIn : Region → MarkedPolynomials → Refusal → Type 0
IsUncertifiedIn k b r = (e : WeightError) × IsCertificateCauseIn b.variables k b.items e × (r ≡ of_weight_error e)

-- why the item can't be made
abbrev pub IsItemRefusalIn : Bool → Region → MarkedPolynomials → Refusal → Type 0
IsItemRefusalIn false k b r = r ≡ refusals.Memory
IsItemRefusalIn true k b r = IsUncertifiedIn k b r
