-- The intersection of a cone with a region, as a program keeps it: by its rows and by its rays.
-- Laws: proofs/CutLaws.antt.
use Rattle.std.specs.Prelude.{◌≡◌, ℕ, ◌<◌, List, [], length, slice_index_or, ℤ, pos, Contains}
use Rattle.gf_poly.specs.Marking.{MarkedPolynomial}
use Rattle.gf_vec.specs.Vector.{dot}
use Rattle.gf_duality_theory.specs.Rays.{IsRays}
use Rattle.gf_rays.specs.Cones.{RowsAndRays}
use Rattle.gf_facets_theory.specs.Regions.{Region}
use Rattle.gf_facets_theory.specs.Normals.{Ascends}
use Rattle.gf_facets_theory.specs.Facets.{IsFlippable}
use Rattle.gf_cone.specs.Cones.{ConeRows, all_rows, normal_at, IsConeOf}
use Rattle.gf_weights.specs.declared.certificates.FacetWitness.{FacetWitness}
use Rattle.gf_weights.specs.Weights.{IsWitnessIn, normals_of}

-- the rows of r are those of c, and the rays of r are the rays of the cone of these rows
pub record HasRaysOf (c : ConeRows) (r : RowsAndRays) : Type 0 where
  pub ambient : r.ambient ≡ c.variables
  pub rows : r.inequalities ≡ all_rows c
  pub rays : IsRays c.variables (all_rows c) [] r.lineality r.rays

-- c is the cone of bs in n variables and in the region k, and r has the rays of c
pub record IsCutOf (n : ℕ) (k : Region) (bs : List MarkedPolynomial) (c : ConeRows) (r : RowsAndRays) : Type 0 where
  pub cone : IsConeOf n k bs c
  pub rays : HasRaysOf c r

-- the inequality at i is zero on the ray at j
abbrev pub IsZeroAt : RowsAndRays → ℕ → ℕ → Type 0
IsZeroAt r i j = dot (slice_index_or r.inequalities i []) (slice_index_or r.rays j []) ≡ pos 0

-- on some ray the inequality at i is zero and the inequality at k isn't
abbrev pub HasRayOff : RowsAndRays → ℕ → ℕ → Type 0
HasRayOff r i k = (j : ℕ) × (j < length r.rays) × IsZeroAt r i j × (IsZeroAt r k j → ⊥)

-- for each other inequality there is a ray on which the inequality at i is zero and the other one isn't
abbrev pub HasRayOffOthers : RowsAndRays → ℕ → Type 0
HasRayOffOthers r i = (k : ℕ) → k < length r.inequalities → (k ≡ i → ⊥) → HasRayOff r i k

-- fs has exactly the facets that a flip may cross among those of the first i normals of c, in ascending order of their normals, each with
-- its witness
pub record AreWitnessedBefore (n : ℕ) (k : Region) (bs : List MarkedPolynomial) (c : ConeRows) (i : ℕ) (fs : List FacetWitness) : Type 0 where
  pub rises : Ascends (normals_of fs)
  pub before : (a : List ℤ) → Contains (normals_of fs) a → (j : ℕ) × (j < i) × (a ≡ normal_at c j)
  pub flippable : (f : FacetWitness) → Contains fs f → IsFlippable n k bs f.normal
  pub witnessed : (f : FacetWitness) → Contains fs f → IsWitnessIn n k bs f.normal f.witness
  pub all : (j : ℕ) → j < i → IsFlippable n k bs (normal_at c j) → Contains (normals_of fs) (normal_at c j)
