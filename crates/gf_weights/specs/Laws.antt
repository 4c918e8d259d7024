-- The theorems on printed weights and witnesses that functions of this crate name, each for every region of weights.
use Rattle.std.specs.Prelude.{◌≡◌, ℕ, List, ℤ, pos, ◌<ℤ◌, length, All}
use Rattle.gf_exponents_theory.specs.Orders.{gains}
use Rattle.gf_poly.specs.Polynomial.{Terms}
use Rattle.gf_poly.specs.Marking.{MarkedPolynomial}
use Rattle.gf_ideal_theory.specs.Membership.{AreInVariables}
use Rattle.gf_ideal_theory.specs.Bases.{IsReducedBasis}
use Rattle.gf_facets_theory.specs.Regions.{Region, IsInRegion}
use Rattle.gf_facets_theory.specs.Facets.{IsInOpenCone, IsInsideFacet, IsFlippable}
use Rattle.gf_facets_theory.specs.MarkedBases.{AreCanonical, IsMarkedReducedBasis, IsBasisInRegion}
use Rattle.gf_weights.specs.declared.certificates.BasisCertificates.{BasisCertificates}
use Rattle.gf_weights.specs.declared.certificates.FacetWitness.{FacetWitness}
use Rattle.gf_weights.specs.Weights.{IsPrintedWeight, IsWeightIn, IsWitnessIn, AreWitnessedIn, AreCertificatesIn}

-- if some vector of the region sets each mark above the rest, so does the printed weight, which then is in the region. A marked reduced
-- basis of an ideal is its reduced Gröbner basis for the printed weight
pub record WeightsGiveBases : Type 0 where
  pub marks : (n : ℕ) (k : Region) (bs : List MarkedPolynomial) (v w : List ℤ) → AreCanonical n bs → IsWeightIn n k bs v →
      IsInRegion n k w → IsInOpenCone w bs → IsInRegion n k v × IsInOpenCone v bs
  pub basis : (n : ℕ) (fs : List Terms) (bs : List MarkedPolynomial) (v : List ℤ) → AreInVariables n fs → IsMarkedReducedBasis n fs bs →
      IsPrintedWeight n bs v → (length v ≡ n) × All (λ x. pos 0 <ℤ x) v × IsReducedBasis n fs (gains v) bs
  pub in_region : (n : ℕ) (k : Region) (fs : List Terms) (bs : List MarkedPolynomial) (v : List ℤ) → AreInVariables n fs → IsBasisInRegion n fs k bs →
      IsWeightIn n k bs v → IsInRegion n k v × IsReducedBasis n fs (gains v) bs

-- the printed witness of a facet that a flip may cross is in the region, zero on the facet's normal, and positive on all other normals
abbrev pub WitnessesAreInside : Type 0
WitnessesAreInside = (n : ℕ) (k : Region) (bs : List MarkedPolynomial) (a v : List ℤ) → AreCanonical n bs → IsFlippable n k bs a →
    IsWitnessIn n k bs a v → IsInRegion n k v × IsInsideFacet bs a v

-- a marked list has at most one printed weight, each facet at most one witness, and so the list at most one list of certificates
pub record CertificatesAreUnique : Type 0 where
  pub weight : (n : ℕ) (k : Region) (bs : List MarkedPolynomial) (v w : List ℤ) → IsWeightIn n k bs v → IsWeightIn n k bs w → v ≡ w
  pub witness : (n : ℕ) (k : Region) (bs : List MarkedPolynomial) (a v w : List ℤ) → IsWitnessIn n k bs a v → IsWitnessIn n k bs a w → v ≡ w
  pub all : (n : ℕ) (k : Region) (bs : List MarkedPolynomial) (c d : BasisCertificates) → AreCertificatesIn n k bs c → AreCertificatesIn n k bs d →
      (c.weight ≡ d.weight) × (c.facets.items ≡ d.facets.items)

-- a marked list has a printed weight, and a list of the facets that a flip may cross, each with its printed witness
pub record CertificatesExist : Type 0 where
  pub weight : (n : ℕ) (k : Region) (bs : List MarkedPolynomial) → AreCanonical n bs → (v : List ℤ) × IsWeightIn n k bs v
  pub facets : (n : ℕ) (k : Region) (bs : List MarkedPolynomial) → AreCanonical n bs → (fs : List FacetWitness) × AreWitnessedIn n k bs fs
