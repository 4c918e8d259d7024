-- Why a weight or witnesses can't be computed. Laws: proofs/RefusalLaws.antt.
use Rattle.std.specs.Prelude.{◌≡◌, ◌⊎◌, ℕ, List, [], ℤ}
use Rattle.gf_poly.specs.Marking.{MarkedPolynomial}
use Rattle.gf_vec.specs.Vector.{zeros}
use Rattle.gf_vec.specs.Steps.{IsFirstWide}
use Rattle.gf_vec.specs.declared.error.WideVector.{WideVector}
use Rattle.gf_vec.specs.declared.error.VecError.{VecError}
use Rattle.gf_vec.specs.declared.error.VecError.TheVariants as vec_errors
use Rattle.gf_gordan.specs.declared.error.ConeOverflow.{ConeOverflow}
use Rattle.gf_gordan.specs.declared.error.GordanError.{GordanError}
use Rattle.gf_gordan.specs.declared.error.GordanError.TheVariants as gordan_errors
use Rattle.gf_rays.specs.Reached.{IsRaysStep}
use Rattle.gf_rays.specs.Sums.{adding_steps}
use Rattle.gf_rays.specs.Parts.{zeros_of}
use Rattle.gf_facets_theory.specs.Regions.{Region, all_positive}
use Rattle.gf_facets_theory.specs.Facets.{IsFlippable}
use Rattle.gf_weights.specs.declared.error.WeightError.{WeightError}
use Rattle.gf_weights.specs.declared.error.WeightError.TheVariants.{Cone, Wide, Memory}
use Rattle.gf_weights.specs.Weights.{AreCutRows, AreCutRays}

-- ---- refusals of other crates

-- the refusal of a system, or of a double description, as one of a weight
abbrev pub weight_of_gordan : GordanError → WeightError
weight_of_gordan (gordan_errors.Cone o) = Cone o
weight_of_gordan gordan_errors.Memory = Memory

-- the refusal of a sum of vectors, as one of a weight
abbrev pub of_vector : VecError → WeightError
of_vector (vec_errors.Wide w) = Wide w
of_vector vec_errors.Memory = Memory

-- ---- causes, in a region k

-- s is an operation of finding the rays of the cut cone, and it leaves its range
abbrev pub IsCutStep : ℕ → Region → List MarkedPolynomial → ConeOverflow → Type 0
IsCutStep n k bs s = (rows : List (List ℤ)) × AreCutRows n k bs rows × IsRaysStep n rows [] s

-- e is the first sum, from the left, of an entry of a partial sum of the rays of the cut cone and one of the next ray that leaves the range
abbrev pub IsWideWeight : ℕ → Region → List MarkedPolynomial → WideVector → Type 0
IsWideWeight n k bs e = (rays : List (List ℤ)) × AreCutRays n k bs rays × IsFirstWide e (adding_steps (zeros n) rays)

-- e is the first such sum that leaves the range, among the rays on which the normal of some facet that a flip may cross is zero
abbrev pub IsWideWitness : ℕ → Region → List MarkedPolynomial → WideVector → Type 0
IsWideWitness n k bs e = (a : List ℤ) × IsFlippable n k bs a ×
    ((rays : List (List ℤ)) × AreCutRays n k bs rays × IsFirstWide e (adding_steps (zeros n) (zeros_of a rays)))

-- why the weight in the region can't be computed
abbrev pub IsWeightCauseIn : ℕ → Region → List MarkedPolynomial → WeightError → Type 0
IsWeightCauseIn n k bs (Cone s) = IsCutStep n k bs s
IsWeightCauseIn n k bs (Wide e) = IsWideWeight n k bs e
IsWeightCauseIn n k bs Memory = Unit {0}

-- why the weight or a witness in the region can't be computed
abbrev pub IsCertificateCauseIn : ℕ → Region → List MarkedPolynomial → WeightError → Type 0
IsCertificateCauseIn n k bs (Cone s) = IsCutStep n k bs s
IsCertificateCauseIn n k bs (Wide e) = IsWideWeight n k bs e ⊎ IsWideWitness n k bs e
IsCertificateCauseIn n k bs Memory = Unit {0}

-- no operation that the weight and the witnesses in the region need leaves its range
abbrev pub AreCertificatesFittingIn : ℕ → Region → List MarkedPolynomial → Type 0
AreCertificatesFittingIn n k bs = (e : WeightError) → IsCertificateCauseIn n k bs e → e ≡ Memory

-- ---- for all positive weights

-- why the weight can't be computed
abbrev pub IsWeightCause : ℕ → List MarkedPolynomial → WeightError → Type 0
IsWeightCause n bs e = IsWeightCauseIn n (all_positive n) bs e

-- why the weight or a witness can't be computed
abbrev pub IsBasisCertificateCause : ℕ → List MarkedPolynomial → WeightError → Type 0
IsBasisCertificateCause n bs e = IsCertificateCauseIn n (all_positive n) bs e

-- no operation that the weight needs leaves its range
abbrev pub IsWeightWithinLimits : ℕ → List MarkedPolynomial → Type 0
IsWeightWithinLimits n bs = (e : WeightError) → IsWeightCause n bs e → e ≡ Memory

-- no operation that the weight and the witnesses need leaves its range
abbrev pub AreCertificatesWithinLimits : ℕ → List MarkedPolynomial → Type 0
AreCertificatesWithinLimits n bs = (e : WeightError) → IsBasisCertificateCause n bs e → e ≡ Memory
