-- Why a marked set is refused, or can't be tested. Laws: proofs/RefusalLaws.antt.
use Rattle.std.specs.Prelude.{◌≡◌, ℕ, List, map, Contains, ℤ}
use Rattle.gf_poly.specs.declared.error.PolyError.{PolyError}
use Rattle.gf_poly.specs.declared.error.PolyError.TheVariants as errors
use Rattle.gf_poly.specs.Polynomial.{Terms}
use Rattle.gf_poly.specs.Marking.{MarkedPolynomial, MarkedPolynomials}
use Rattle.gf_gordan.specs.declared.error.ConeOverflow.{ConeOverflow}
use Rattle.gf_gordan.specs.declared.error.GordanError.{GordanError}
use Rattle.gf_gordan.specs.declared.error.GordanError.TheVariants as gordan_errors
use Rattle.gf_ideal_theory.specs.Marks.{IsRealisable}
use Rattle.gf_ideal_theory.specs.Reduction.{IsSPolynomial}
use Rattle.gf_division.specs.SPolynomials.{IsPairRefusal}
use Rattle.gf_division.specs.Steps.{IsReductionRefusal}
use Rattle.gf_reduced.specs.declared.error.CheckError.{CheckError}
use Rattle.gf_reduced.specs.declared.error.CheckError.TheVariants as check_errors
use Rattle.gf_reduced.specs.Forms.{monic_of, IsFormRefusal}
use Rattle.gf_reduced.specs.Markings.{IsInconsistent, IsMarkingStep, IsRealisableBeside, IsInconsistentBeside, IsStepBeside}
use Rattle.gf_reduced.specs.Terms.{IsFirstOffending, AreReduced}
use Rattle.gf_reduced.specs.Pairs.{IsFirstFailing}

-- ---- refusals of other crates

-- the refusal of a system of strict inequalities, as one of a check
abbrev pub check_of_gordan : GordanError → CheckError
check_of_gordan (gordan_errors.Cone o) = check_errors.Cone o
check_of_gordan gordan_errors.Memory = check_errors.Memory

-- the refusal of an operation on polynomials, as one of a check
abbrev pub of_poly : PolyError → CheckError
of_poly (errors.Overflow o) = check_errors.Overflow o
of_poly (errors.Exponent o) = check_errors.Exponent o
of_poly errors.Memory = check_errors.Memory

-- ---- parts

-- why the pair of some two members can't be tested: an operation of its S-polynomial, or of the reduction of that by the members, leaves
-- its range
pub data IsPairCause (bs : List MarkedPolynomial) (e : PolyError) : Type 0 where
  s_polynomial : (b c : MarkedPolynomial) → Contains bs b → Contains bs c → IsPairRefusal b c e → IsPairCause bs e
  reduction : (b c : MarkedPolynomial) (s : Terms) → Contains bs b → Contains bs c → IsSPolynomial b c s → IsReductionRefusal bs s e → IsPairCause bs e

-- some pair can't be tested for such a cause, or memory runs out
abbrev pub IsPairsRefusal : List MarkedPolynomial → PolyError → Type 0
IsPairsRefusal bs (errors.Overflow o) = IsPairCause bs (errors.Overflow o)
IsPairsRefusal bs (errors.Exponent o) = IsPairCause bs (errors.Exponent o)
IsPairsRefusal bs errors.Memory = Unit {0}

-- the first pair whose S-polynomial has a nonzero normal form, in the set with this number; or why a pair can't be tested
abbrev pub IsPairsFault : ℕ → List MarkedPolynomial → CheckError → Type 0
IsPairsFault k bs (check_errors.Overflow o) = IsPairsRefusal bs (errors.Overflow o)
IsPairsFault k bs (check_errors.Exponent o) = IsPairsRefusal bs (errors.Exponent o)
IsPairsFault k bs (check_errors.NotReduced set i x) = ⊥
IsPairsFault k bs (check_errors.NotBasis set i j r) = (set ≡ k) × IsFirstFailing bs i j r
IsPairsFault k bs (check_errors.Inconsistent set ms) = ⊥
IsPairsFault k bs (check_errors.Cone o) = ⊥
IsPairsFault k bs check_errors.Memory = Unit {0}

-- the first offending term, in the set with this number
abbrev pub IsTermsFault : ℕ → List MarkedPolynomial → CheckError → Type 0
IsTermsFault k bs (check_errors.NotReduced set i x) = (set ≡ k) × IsFirstOffending bs i x
IsTermsFault k bs _ = ⊥

-- ---- the calls; the set has the number k

-- no positive weight gives the marking, a step of the elimination leaves its range, or memory runs out
abbrev pub IsSetWeightRefusal : ℕ → MarkedPolynomials → CheckError → Type 0
IsSetWeightRefusal k s (check_errors.Inconsistent set ms) = (set ≡ k) × IsInconsistent s.variables s.items ms
IsSetWeightRefusal k s (check_errors.Cone o) = IsMarkingStep s.variables s.items o
IsSetWeightRefusal k s check_errors.Memory = Unit {0}
IsSetWeightRefusal k s _ = ⊥

-- a positive weight gives the marking, and a member can't be made monic, or a pair of the monic members can't be tested
pub data IsTestCause (s : MarkedPolynomials) (e : PolyError) : Type 0 where
  monic : IsRealisable s.variables s.items → IsFormRefusal s.items e → IsTestCause s e
  pairs : IsRealisable s.variables s.items → IsPairsRefusal (map monic_of s.items) e → IsTestCause s e

-- why it isn't decided whether the set is a basis: for such a cause, for a step of the elimination that leaves its range, or for memory
abbrev pub IsTestRefusal : MarkedPolynomials → CheckError → Type 0
IsTestRefusal s (check_errors.Overflow o) = IsTestCause s (errors.Overflow o)
IsTestRefusal s (check_errors.Exponent o) = IsTestCause s (errors.Exponent o)
IsTestRefusal s (check_errors.Cone o) = IsMarkingStep s.variables s.items o
IsTestRefusal s check_errors.Memory = Unit {0}
IsTestRefusal s _ = ⊥

-- a member can't be made monic; or a positive weight gives the marking, P holds, and a pair of the monic members can't be tested
pub data IsRequireCause (P : Type 0) (s : MarkedPolynomials) (e : PolyError) : Type 0 where
  monic : IsFormRefusal s.items e → IsRequireCause P s e
  pairs : IsRealisable s.variables s.items → P → IsPairsRefusal (map monic_of s.items) e → IsRequireCause P s e

-- why the set is refused. A member can't be made monic. Or no positive weight gives the marking. Or one does, P holds, and a pair of the
-- monic members has a nonzero normal form, the first such pair being reported. Or an operation leaves its range, or memory runs out
abbrev pub IsPairedRefusal : Type 0 → ℕ → MarkedPolynomials → CheckError → Type 0
IsPairedRefusal P k s (check_errors.Overflow o) = IsRequireCause P s (errors.Overflow o)
IsPairedRefusal P k s (check_errors.Exponent o) = IsRequireCause P s (errors.Exponent o)
IsPairedRefusal P k s (check_errors.NotReduced set i x) = ⊥
IsPairedRefusal P k s (check_errors.NotBasis set i j r) = (set ≡ k) × IsRealisable s.variables s.items × P × IsFirstFailing (map monic_of s.items) i j r
IsPairedRefusal P k s (check_errors.Inconsistent set ms) = (set ≡ k) × IsInconsistent s.variables s.items ms
IsPairedRefusal P k s (check_errors.Cone o) = IsMarkingStep s.variables s.items o
IsPairedRefusal P k s check_errors.Memory = Unit {0}

-- why the set is refused as a basis
abbrev pub IsReducedBasisRefusal : ℕ → MarkedPolynomials → CheckError → Type 0
IsReducedBasisRefusal k s e = IsPairedRefusal (Unit {0}) k s e

-- why the set is refused as a reduced basis. A positive weight gives the marking, and a term offends, the first such term being reported.
-- Or no term offends, and the set is refused as a basis
abbrev pub IsReducedRefusal : ℕ → MarkedPolynomials → CheckError → Type 0
IsReducedRefusal k s (check_errors.NotReduced set i x) = (set ≡ k) × IsRealisable s.variables s.items × IsFirstOffending s.items i x
IsReducedRefusal k s e = IsPairedRefusal (AreReduced s.items) k s e

-- ---- with given rows

-- no positive weight on which each of the given rows is positive gives the marking, a step of the elimination leaves its range, or memory
-- runs out
abbrev pub IsWeightRefusalBeside : List (List ℤ) → ℕ → MarkedPolynomials → CheckError → Type 0
IsWeightRefusalBeside rows k s (check_errors.Inconsistent set ms) = (set ≡ k) × IsInconsistentBeside s.variables rows s.items ms
IsWeightRefusalBeside rows k s (check_errors.Cone o) = IsStepBeside s.variables rows s.items o
IsWeightRefusalBeside rows k s check_errors.Memory = Unit {0}
IsWeightRefusalBeside rows k s _ = ⊥

-- why the set is refused as a reduced basis for such a weight. A member can't be made monic. Or no such weight gives the marking, or a step
-- of the elimination leaves its range. Or there is such a weight, and a term offends, the first one being reported. Or no term offends, and
-- a pair of the monic members has a nonzero normal form, the first one being reported, or can't be tested
pub data IsReducedRefusalBeside (rows : List (List ℤ)) (k : ℕ) (s : MarkedPolynomials) (e : CheckError) : Type 0 where
  at_forms : (d : PolyError) → IsFormRefusal s.items d → e ≡ of_poly d → IsReducedRefusalBeside rows k s e
  at_weight : IsWeightRefusalBeside rows k s e → IsReducedRefusalBeside rows k s e
  at_terms : IsRealisableBeside s.variables rows s.items → IsTermsFault k s.items e → IsReducedRefusalBeside rows k s e
  at_pairs : IsRealisableBeside s.variables rows s.items → AreReduced s.items → IsPairsFault k (map monic_of s.items) e → IsReducedRefusalBeside rows k s e

-- ---- within limits

-- no step of the elimination of the marking's system leaves its range
abbrev pub IsSystemWithinLimits : MarkedPolynomials → Type 0
IsSystemWithinLimits s = (o : ConeOverflow) → IsMarkingStep s.variables s.items o → ⊥

-- no step of the elimination leaves its range, nor any operation of making a member monic, of the S-polynomials of monic members, or of
-- their reductions
pub record AreChecksWithinLimits (s : MarkedPolynomials) : Type 0 where
  pub system : IsSystemWithinLimits s
  pub forms : (e : PolyError) → IsFormRefusal s.items e → e ≡ errors.Memory
  pub pairs : (e : PolyError) → IsPairsRefusal (map monic_of s.items) e → e ≡ errors.Memory

-- the same holds if the given rows belong to the system
pub record AreChecksWithinLimitsBeside (rows : List (List ℤ)) (s : MarkedPolynomials) : Type 0 where
  pub system : (o : ConeOverflow) → IsStepBeside s.variables rows s.items o → ⊥
  pub forms : (e : PolyError) → IsFormRefusal s.items e → e ≡ errors.Memory
  pub pairs : (e : PolyError) → IsPairsRefusal (map monic_of s.items) e → e ≡ errors.Memory

-- no operation of reducing f by bs leaves its range
abbrev pub IsReductionWithinLimits : List MarkedPolynomial → Terms → Type 0
IsReductionWithinLimits bs f = (e : PolyError) → IsReductionRefusal bs f e → e ≡ errors.Memory
