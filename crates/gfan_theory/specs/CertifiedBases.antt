-- The meaning of the certificates that `_bases` writes. Laws: proofs/CertifiedListLaws.antt.
-- Source: Fukuda, Jensen, Thomas, Computing Gröbner fans, 2 and 4.
use Rattle.std.specs.Prelude.{◌≡◌, ◌↔◌, ℕ, Bool, true, List, [], ◌++◌, length, All, Contains, ℤ, pos, ◌<ℤ◌, Option}
use Rattle.std.specs.List.{AllZip}
use Rattle.gf_exponents_theory.specs.Orders.{gains}
use Rattle.gf_poly.specs.Polynomial.{Terms}
use Rattle.gf_poly.specs.Marking.{MarkedPolynomials}
use Rattle.gf_text.specs.PrintedSets.{basis_text}
use Rattle.gf_ideal_theory.specs.Membership.{AreInVariables}
use Rattle.gf_ideal_theory.specs.Bases.{IsReducedBasis}
use Rattle.gf_facets_theory.specs.Regions.{Region, IsRegion, IsInRegion, all_positive}
use Rattle.gf_facets_theory.specs.Normals.{Ascends}
use Rattle.gf_facets_theory.specs.Facets.{IsInsideFacet, IsFlippable}
use Rattle.gfan_lists.specs.declared.bases.ListOptions.{ListOptions}
use Rattle.gf_weights.specs.declared.certificates.FacetWitness.{FacetWitness}
use Rattle.gf_weights.specs.Weights.{normals_of}
use Rattle.gf_lists_theory.specs.BasesList.{AreAllBasesIn, AreAllBases}
use Rattle.gfan_lists.specs.Certificates.{certificates_text}
use Rattle.gfan_lists.specs.Bases.{list_text, IsTextBehind}
use Rattle.gfan.specs.Commands.{list_job, IsAnswerTo}
use Rattle.gfan_theory.specs.ListSources.{HasPolynomials}

-- the text is that of the basis b of the ideal of fs, followed by certificates. The weight is positive, and b is the reduced basis of the
-- ideal for it. The facets are exactly those that a flip may cross, in ascending order of their normals. Each has a positive vector that is
-- orthogonal to its normal and positive on all other normals
pub record HasCertificates (ring : List (List ℕ)) (fs : List Terms) (b : MarkedPolynomials) (text : List ℕ) : Type 0 where
  pub weight : List ℤ
  pub facets : List FacetWitness
  pub is_text : text ≡ basis_text ring b.items ++ certificates_text weight facets
  pub width : length weight ≡ length ring
  pub positive : All (λ x. pos 0 <ℤ x) weight
  pub reduced : IsReducedBasis (length ring) fs (gains weight) b.items
  pub rises : Ascends (normals_of facets)
  pub exactly : (a : List ℤ) → Contains (normals_of facets) a ↔ IsFlippable (length ring) (all_positive (length ring)) b.items a
  pub inside : (f : FacetWitness) → Contains facets f → IsInRegion (length ring) (all_positive (length ring)) f.witness × IsInsideFacet b.items f.normal
      f.witness

-- the text is that of the basis b of the ideal of fs, followed by certificates in the region k. The weight is in the region, and b is the
-- reduced basis of the ideal for it. The facets are exactly those that a flip may cross in the region, in ascending order of their normals.
-- Each has a vector of the region in its relative interior
pub record HasCertificatesIn (ring : List (List ℕ)) (k : Region) (fs : List Terms) (b : MarkedPolynomials) (text : List ℕ) : Type 0 where
  pub weight : List ℤ
  pub facets : List FacetWitness
  pub is_text : text ≡ basis_text ring b.items ++ certificates_text weight facets
  pub region : IsInRegion (length ring) k weight
  pub reduced : IsReducedBasis (length ring) fs (gains weight) b.items
  pub rises : Ascends (normals_of facets)
  pub exactly : (a : List ℤ) → Contains (normals_of facets) a ↔ IsFlippable (length ring) k b.items a
  pub inside : (f : FacetWitness) → Contains facets f → IsInRegion (length ring) k f.witness × IsInsideFacet b.items f.normal f.witness

-- the text is that of the list of all bases of the ideal of fs in a region, each followed by certificates in the region
abbrev pub IsCertifiedListIn : List (List ℕ) → Region → List Terms → List ℕ → Type 0
IsCertifiedListIn ring k fs text = (list : List MarkedPolynomials) × AreAllBasesIn (length ring) k fs list ×
    ((items : List (List ℕ)) × AllZip (HasCertificatesIn ring k fs) list items × (text ≡ list_text ring items))

-- the text is that of the list of all bases of the ideal of fs, each followed by certificates
abbrev pub IsCertifiedList : List (List ℕ) → List Terms → List ℕ → Type 0
IsCertifiedList ring fs text = (list : List MarkedPolynomials) × AreAllBases (length ring) fs list × ((items : List (List ℕ)) × AllZip (HasCertificates ring fs)
    list items × (text ≡ list_text ring items))

-- each list that is written with certificates, of polynomials in the variables of the ring, has certificates in this sense; so has the
-- output of `_bases --certificates` for each source
pub record CertificatesHold : Type 0 where
  pub of_lists : (limit : Option ℕ) (ring : List (List ℕ)) (fs : List Terms) (text : List ℕ) → AreInVariables (length ring) fs →
      IsTextBehind [] true limit ring (all_positive (length ring)) fs text → IsCertifiedList ring fs text
  pub of_answers : (from_basis : Bool) (o : ListOptions) (workers : ℕ) (source text : List ℕ) → o.certified ≡ true →
      IsAnswerTo (list_job from_basis o workers) source text → (ring : List (List ℕ)) × (fs : List Terms) × HasPolynomials from_basis source ring fs ×
      IsCertifiedList ring fs text

-- each list in a region that is written with certificates, of polynomials in the variables of the ring, has certificates in this sense
abbrev pub RegionCertificatesHold : Type 0
RegionCertificatesHold = (limit : Option ℕ) (ring : List (List ℕ)) (k : Region) (fs : List Terms) (text : List ℕ) → AreInVariables (length ring) fs →
    IsRegion (length ring) k →
    IsTextBehind [] true limit ring k fs text → IsCertifiedListIn ring k fs text
