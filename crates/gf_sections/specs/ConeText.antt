-- The text that tells a cone, and why there is none.
use Rattle.std.specs.Prelude.{◌≡◌, ℕ, ◌+◌, ◌++◌, ◌∷◌, Bool, true, false, List, [], ℤ, length, Contains, codes}
use Rattle.std.specs.List.{AllZip, concat}
use Rattle.gf_vec.specs.Vector.{zeros}
use Rattle.gf_vec.specs.Steps.{IsFirstWide}
use Rattle.gf_vec.specs.declared.error.WideVector.{WideVector}
use Rattle.gf_gordan.specs.declared.error.ConeOverflow.{ConeOverflow}
use Rattle.gf_gordan.specs.Equations.{IsStepOn}
use Rattle.gf_duality_theory.specs.Generators.{unit_vectors}
use Rattle.gf_duality_theory.specs.Rays.{IsZeroOn}
use Rattle.gf_duality_theory.specs.Faces.{sum_of}
use Rattle.gf_rays.specs.Reached.{IsRaysStep}
use Rattle.gf_rays.specs.Parts.{zeros_of}
use Rattle.gf_rays.specs.Sums.{adding_steps}
use Rattle.gf_sections.specs.ConeRows.{AreConeRows, given_rows}
use Rattle.gf_sections.specs.ConeCertificates.{AreRowsTold, IsInsideRowFacet, IsRedundant, AreRowsWith, IsCombinationOf, IsZeroCombination, value_columns}
use Rattle.gf_sections.specs.SectionText.{rows_section, cone_sections}
use Rattle.gf_sections.specs.declared.certificates.ConeCertificates.{ConeCertificates}
use Rattle.gf_sections.specs.declared.error.SectionsError.{SectionsError}
use Rattle.gf_sections.specs.declared.error.SectionsError.TheVariants as errors

-- ---- certificates

-- v is the sum of the rays of the facet of f, which lies on it and inside all else
pub record IsFacetSum (n : ℕ) (rows rays : List (List ℤ)) (f v : List ℤ) : Type 0 where
  pub value : v ≡ sum_of n (zeros_of f rays)
  pub inside_facet : IsInsideRowFacet n rows f v

-- a sum for each facet; the redundant rows, and a combination for each; the rows that are zero on the whole cone, and one for each
pub record AreCertificates (n : ℕ) (rows rays facets implied : List (List ℤ)) (c : ConeCertificates) : Type 0 where
  pub witnesses : AllZip (IsFacetSum n rows rays) facets c.witnesses.items
  pub redundant : AreRowsWith (IsRedundant n rows facets) rows c.redundant.items
  pub combinations : AllZip (IsCombinationOf n facets implied) c.redundant.items c.combinations.items
  pub zero_rows : AreRowsWith (IsZeroOn n rows []) rows c.zero_rows.items
  pub zero_combinations : AllZip (IsZeroCombination n rows) c.zero_rows.items c.zero_combinations.items

-- in five sections
abbrev pub certificate_sections : ConeCertificates → List ℕ
certificate_sections c = concat (
    rows_section (codes "FACET_WITNESSES") c.witnesses.items
    ∷ rows_section (codes "REDUNDANT") c.redundant.items
    ∷ rows_section (codes "REDUNDANT_COMBINATIONS") c.combinations.items
    ∷ rows_section (codes "EQUATION_ROWS") c.zero_rows.items
    ∷ rows_section (codes "EQUATION_COMBINATIONS") c.zero_combinations.items
    ∷ [])

-- where they are asked for
abbrev pub IsCertificateText : Bool → ℕ → List (List ℤ) → List (List ℤ) → List (List ℤ) → List (List ℤ) → List ℕ → Type 0
IsCertificateText false n rows rays facets implied text = text ≡ []
IsCertificateText true n rows rays facets implied text = (c : ConeCertificates) × AreCertificates n rows rays facets implied c × (text ≡ certificate_sections c)

-- ---- the whole text

-- the sections of the cone of these rows in n variables
pub record AreSections (n : ℕ) (certified : Bool) (rows : List (List ℤ)) (text : List ℕ) : Type 0 where
  pub facets : List (List ℤ)
  pub implied : List (List ℤ)
  pub told : AreRowsTold n rows facets implied
  pub dim : ℕ
  pub dimension : dim + length implied ≡ n
  pub more : List ℕ
  pub certificates : IsCertificateText certified n rows told.rays facets implied more
  pub is_text : text ≡ cone_sections n dim implied facets ++ more

-- the text tells the cone of the inequalities and equations in n variables
pub record IsConeText (n : ℕ) (certified : Bool) (inequalities equations : List (List ℤ)) (text : List ℕ) : Type 0 where
  pub rows : List (List ℤ)
  pub are_rows : AreConeRows (given_rows inequalities equations) rows
  pub sections : AreSections n certified rows text

-- ---- why there is none

-- a sum of rays of a facet that leaves the range, at its first such step
abbrev pub IsWitnessStep : ℕ → List (List ℤ) → List (List ℤ) → WideVector → Type 0
IsWitnessStep n rays facets e = (f : List ℤ) × Contains facets f × IsFirstWide e (adding_steps (zeros n) (zeros_of f rays))

-- an operation on the system of one of these rows: the facets, with the implied equations and the row as equations
abbrev pub IsCombiningStep : ℕ → List (List ℤ) → List (List ℤ) → List (List ℤ) → ConeOverflow → Type 0
IsCombiningStep n facets implied redundant s = (t : List ℤ) × Contains redundant t × IsStepOn (length facets + length (implied ++ t ∷ [])) n facets
    (implied ++ t ∷ []) s

-- an operation on a system that the certificates need: that of a redundant row has the facets as rows, and as equations the implied ones
-- and the row; that of the rows that are zero on the whole cone a unit vector for each of them, and as equations their columns
pub data IsCertificateStep (n : ℕ) (rows facets implied : List (List ℤ)) (s : ConeOverflow) : Type 0 where
  combining : (t : List ℤ) → Contains rows t → IsRedundant n rows facets t →
      IsStepOn (length facets + length (implied ++ t ∷ [])) n facets (implied ++ t ∷ []) s → IsCertificateStep n rows facets implied s
  vanishing : (zero_rows : List (List ℤ)) → AreRowsWith (IsZeroOn n rows []) rows zero_rows →
      IsStepOn (length (unit_vectors (length zero_rows)) + length (value_columns n zero_rows)) (length zero_rows) (unit_vectors (length zero_rows))
      (value_columns n zero_rows) s → IsCertificateStep n rows facets implied s

-- why certificates aren't found: an operation on such a system, one of a witness of a facet, or there is no memory
abbrev pub IsCertificateCause : ℕ → List (List ℤ) → List (List ℤ) → List (List ℤ) → List (List ℤ) → SectionsError → Type 0
IsCertificateCause n rows rays facets implied (errors.Cone s) = IsCertificateStep n rows facets implied s
IsCertificateCause n rows rays facets implied (errors.Wide e) = IsWitnessStep n rays facets e
IsCertificateCause n rows rays facets implied errors.Memory = Unit {0}

-- an operation of finding the rays of the cone of these rows, or where certificates are asked for one of these
pub data IsSectionsCause (n : ℕ) (certified : Bool) (rows : List (List ℤ)) (e : SectionsError) : Type 0 where
  finding : (s : ConeOverflow) → IsRaysStep n rows [] s → e ≡ errors.Cone s → IsSectionsCause n certified rows e
  certifying : (facets implied : List (List ℤ)) (told : AreRowsTold n rows facets implied) → certified ≡ true →
      IsCertificateCause n rows told.rays facets implied e → IsSectionsCause n certified rows e
  no_memory : e ≡ errors.Memory → IsSectionsCause n certified rows e

-- the same of the rows of the cone of inequalities and equations
pub data IsConeCause (n : ℕ) (certified : Bool) (inequalities equations : List (List ℤ)) (e : SectionsError) : Type 0 where
  of_rows : (rows : List (List ℤ)) → AreConeRows (given_rows inequalities equations) rows → IsSectionsCause n certified rows e →
      IsConeCause n certified inequalities equations e
  no_memory : e ≡ errors.Memory → IsConeCause n certified inequalities equations e

-- no operation of it leaves the range
abbrev pub IsConeWithinLimits : ℕ → Bool → List (List ℤ) → List (List ℤ) → Type 0
IsConeWithinLimits n certified inequalities equations = (e : SectionsError) → IsConeCause n certified inequalities equations e → e ≡ errors.Memory
