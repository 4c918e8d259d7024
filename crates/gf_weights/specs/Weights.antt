-- The weight that is printed for a marked list, and the witness that is printed for a facet: sums of the primitive vectors along the
-- extreme rays of the intersection of its closed cone with a closed region of weights.
-- Laws: proofs/WeightLaws.antt, proofs/UniqueLaws.antt. Source: Fukuda, Jensen, Thomas, Computing Gröbner fans, 2; Ziegler, Lectures on
-- Polytopes, 1 and 2.
use Rattle.std.specs.Prelude.{◌≡◌, ℕ, List, [], ◌++◌, ℤ, map, Contains}
use Rattle.gf_poly.specs.Marking.{MarkedPolynomial}
use Rattle.gf_duality_theory.specs.Rays.{IsRays}
use Rattle.gf_duality_theory.specs.Faces.{sum_of}
use Rattle.gf_rays.specs.Parts.{zeros_of}
use Rattle.gf_facets_theory.specs.Systems.{units}
use Rattle.gf_facets_theory.specs.Regions.{Region, all_positive}
use Rattle.gf_facets_theory.specs.Normals.{AreNormals, Ascends}
use Rattle.gf_facets_theory.specs.Facets.{IsFlippable}
use Rattle.gf_weights.specs.declared.certificates.FacetWitness.{FacetWitness}
use Rattle.gf_weights.specs.declared.certificates.BasisCertificates.{BasisCertificates}

-- ---- in a region k: the cone is intersected with the closure of k

-- the rows of the intersection of the cone of bs with the closed region: the normals of bs, ascending, then the rows of the region, then
-- the unit vectors
pub record AreCutRows (n : ℕ) (k : Region) (bs : List MarkedPolynomial) (rows : List (List ℤ)) : Type 0 where
  pub normals : List (List ℤ)
  pub are_normals : AreNormals bs normals
  pub all : rows ≡ normals ++ (k.rows ++ units n n)

-- the intersection of the cone of bs with the closed region has no lineality space, and these are the primitive vectors along its extreme
-- rays, ascending
pub record AreCutRays (n : ℕ) (k : Region) (bs : List MarkedPolynomial) (rays : List (List ℤ)) : Type 0 where
  pub rows : List (List ℤ)
  pub are_rows : AreCutRows n k bs rows
  pub are_rays : IsRays n rows [] [] rays

-- v is the weight that is printed for bs: the sum of the vectors of `AreCutRays`
pub record IsWeightIn (n : ℕ) (k : Region) (bs : List MarkedPolynomial) (v : List ℤ) : Type 0 where
  pub rays : List (List ℤ)
  pub cut : AreCutRays n k bs rays
  pub sum : v ≡ sum_of n rays

-- v is the witness that is printed for the facet with normal a: the sum of the vectors of `AreCutRays` that are orthogonal to a
pub record IsWitnessIn (n : ℕ) (k : Region) (bs : List MarkedPolynomial) (a v : List ℤ) : Type 0 where
  pub rays : List (List ℤ)
  pub cut : AreCutRays n k bs rays
  pub sum : v ≡ sum_of n (zeros_of a rays)

-- the normals of the facets of a list
abbrev pub normals_of : List FacetWitness → List (List ℤ)
normals_of fs = map (λ f. f.normal) fs

-- fs has exactly the facets that a flip may cross, in ascending order of their normals, each with its witness
pub record AreWitnessedIn (n : ℕ) (k : Region) (bs : List MarkedPolynomial) (fs : List FacetWitness) : Type 0 where
  pub rises : Ascends (normals_of fs)
  pub flippable : (f : FacetWitness) → Contains fs f → IsFlippable n k bs f.normal
  pub witnessed : (f : FacetWitness) → Contains fs f → IsWitnessIn n k bs f.normal f.witness
  pub all : (a : List ℤ) → IsFlippable n k bs a → Contains (normals_of fs) a

-- c has the weight that is printed for bs, and the facets that a flip may cross with their witnesses
pub record AreCertificatesIn (n : ℕ) (k : Region) (bs : List MarkedPolynomial) (c : BasisCertificates) : Type 0 where
  pub weight : IsWeightIn n k bs c.weight
  pub facets : AreWitnessedIn n k bs c.facets.items

-- ---- for all positive weights: the cone is intersected with the non-negative orthant

-- v is the weight that is printed for bs
abbrev pub IsPrintedWeight : ℕ → List MarkedPolynomial → List ℤ → Type 0
IsPrintedWeight n bs v = IsWeightIn n (all_positive n) bs v

-- c has the weight that is printed for bs, and the facets that a flip may cross with their witnesses
abbrev pub AreBasisCertificates : ℕ → List MarkedPolynomial → BasisCertificates → Type 0
AreBasisCertificates n bs c = AreCertificatesIn n (all_positive n) bs c
