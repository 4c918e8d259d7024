-- Refusals of the calls, made of those of their parts, and where only memory may be wanting.
-- To cite: step_tested, form_tested, pairs_tested, pairs_required, reduced_of_paired, terms_required, weight_only_memory,
-- test_only_memory, basis_only_memory, not_excluded, no_first, reduced_memory, reduced_only_memory, reduction_only_memory; forms_alone, refused_alone,
-- beside_only_memory.
use Rattle.std.specs.Prelude.{◌≡◌, ℕ, List, [], ◌∷◌, ◌++◌, map, ℤ, Result, Ok, Err, IfErr}
use Rattle.std.proofs.Common.{refl, sym, ap, ◌∙◌, subst}
use Rattle.gf_poly.specs.declared.error.PolyError.{PolyError}
use Rattle.gf_poly.specs.declared.error.PolyError.TheVariants as errors
use Rattle.gf_poly.specs.Polynomial.{Terms}
use Rattle.gf_poly.specs.Marking.{MarkedPolynomial, MarkedPolynomials, Each, HaveVariables, HasMarkedTerm}
use Rattle.gf_gordan.specs.declared.error.GordanError.{GordanError}
use Rattle.gf_gordan.specs.declared.error.GordanError.TheVariants as gordan_errors
use Rattle.gf_gordan.specs.Steps.{Failed}
use Rattle.gf_ideal_theory.specs.Marks.{IsRealisable}
use Rattle.gf_division.specs.Steps.{IsReductionRefusal}
use Rattle.gf_reduced.specs.declared.error.CheckError.{CheckError}
use Rattle.gf_reduced.specs.declared.error.CheckError.TheVariants as check_errors
use Rattle.gf_reduced.specs.Forms.{monic_of, IsFormRefusal}
use Rattle.gf_reduced.specs.Markings.{IsMarkingStep, IsMarkedGroebnerBasis, IsRealisableBeside}
use Rattle.gf_reduced.specs.Terms.{printed_monomials, IsOffending, NoneOffends, IsFirstOffending, AreReduced}
use Rattle.gf_exponents_theory.specs.Exponents.{Exponents}
use Rattle.gf_reduced.specs.Refusals.{check_of_gordan, of_poly, IsPairsRefusal, IsPairsFault, IsTermsFault, IsSetWeightRefusal, IsTestCause, IsTestRefusal}
use Rattle.gf_reduced.specs.Refusals.{IsRequireCause, IsPairedRefusal, IsReducedBasisRefusal, IsReducedRefusal, IsSystemWithinLimits, AreChecksWithinLimits}
use Rattle.gf_reduced.specs.Refusals.{IsReductionWithinLimits, IsWeightRefusalBeside, IsReducedRefusalBeside, AreChecksWithinLimitsBeside}
use Rattle.gf_reduced.proofs.GroebnerLaws.{failing_refutes}
use Rattle.gf_reduced.proofs.WeightLaws.{realised_beside, weight_refused_alone}

-- ---- the test

pub step_tested : (s : MarkedPolynomials) (e : GordanError) → Failed (IsMarkingStep s.variables s.items) e → IsTestRefusal s (check_of_gordan e)
step_tested s (gordan_errors.Cone o) h = h
step_tested s gordan_errors.Memory h = tt

pub form_tested : (s : MarkedPolynomials) (e : PolyError) → IsRealisable s.variables s.items → IsFormRefusal s.items e → IsTestRefusal s (of_poly e)
form_tested s (errors.Overflow o) r h = IsTestCause.monic r h
form_tested s (errors.Exponent o) r h = IsTestCause.monic r h
form_tested s errors.Memory r h = tt

pub pairs_tested : (s : MarkedPolynomials) (forms : List MarkedPolynomial) (e : PolyError) → forms ≡ map monic_of s.items → IsRealisable s.variables s.items →
    IsPairsRefusal forms e → IsTestRefusal s (of_poly e)
pairs_tested s forms (errors.Overflow o) q r h = IsTestCause.pairs r (subst (λ (fs : List MarkedPolynomial). IsPairsRefusal fs (errors.Overflow o)) q h)
pairs_tested s forms (errors.Exponent o) q r h = IsTestCause.pairs r (subst (λ (fs : List MarkedPolynomial). IsPairsRefusal fs (errors.Exponent o)) q h)
pairs_tested s forms errors.Memory q r h = tt

-- ---- the calls that take a set or refuse it

pub pairs_required : (P : Type 0) (k : ℕ) (s : MarkedPolynomials) (forms : List MarkedPolynomial) (e : CheckError) → forms ≡ map monic_of s.items →
    IsRealisable s.variables s.items → P → IsPairsFault k forms e → IsPairedRefusal P k s e
pairs_required P k s forms e q r p h = at e (subst (λ (fs : List MarkedPolynomial). IsPairsFault k fs e) q h)
  where
    at : (e : CheckError) → IsPairsFault k (map monic_of s.items) e → IsPairedRefusal P k s e
    at (check_errors.Overflow o) h = IsRequireCause.pairs r p h
    at (check_errors.Exponent o) h = IsRequireCause.pairs r p h
    at (check_errors.NotReduced set i x) h = elim h [ ]
    at (check_errors.NotBasis set i j t) h = (h.0, r, p, h.1)
    at (check_errors.Inconsistent set ms) h = elim h [ ]
    at (check_errors.Cone o) h = elim h [ ]
    at check_errors.Memory h = tt

-- of a reduced basis: what is refused by the rest
pub reduced_of_paired : (k : ℕ) (s : MarkedPolynomials) (e : CheckError) → IsPairedRefusal (AreReduced s.items) k s e → IsReducedRefusal k s e
reduced_of_paired k s (check_errors.Overflow o) h = h
reduced_of_paired k s (check_errors.Exponent o) h = h
reduced_of_paired k s (check_errors.NotReduced set i x) h = elim h [ ]
reduced_of_paired k s (check_errors.NotBasis set i j r) h = h
reduced_of_paired k s (check_errors.Inconsistent set ms) h = h
reduced_of_paired k s (check_errors.Cone o) h = h
reduced_of_paired k s check_errors.Memory h = tt

-- and by a term
pub terms_required : (k : ℕ) (s : MarkedPolynomials) (items : List MarkedPolynomial) (e : CheckError) → items ≡ s.items → IsRealisable s.variables s.items →
    IsTermsFault k items e → IsReducedRefusal k s e
terms_required k s items e q r h = at e (subst (λ (bs : List MarkedPolynomial). IsTermsFault k bs e) q h)
  where
    at : (e : CheckError) → IsTermsFault k s.items e → IsReducedRefusal k s e
    at (check_errors.Overflow o) h = elim h [ ]
    at (check_errors.Exponent o) h = elim h [ ]
    at (check_errors.NotReduced set i x) h = (h.0, r, h.1)
    at (check_errors.NotBasis set i j t) h = elim h [ ]
    at (check_errors.Inconsistent set ms) h = elim h [ ]
    at (check_errors.Cone o) h = elim h [ ]
    at check_errors.Memory h = elim h [ ]

-- ---- within limits

pub weight_memory : (k : ℕ) (s : MarkedPolynomials) (e : CheckError) → IsRealisable s.variables s.items → IsSystemWithinLimits s → IsSetWeightRefusal k s e →
    e ≡ check_errors.Memory
weight_memory k s (check_errors.Overflow o) r w h = elim h [ ]
weight_memory k s (check_errors.Exponent o) r w h = elim h [ ]
weight_memory k s (check_errors.NotReduced set i x) r w h = elim h [ ]
weight_memory k s (check_errors.NotBasis set i j t) r w h = elim h [ ]
weight_memory k s (check_errors.Inconsistent set ms) r w h = absurd (h.1.none r)
weight_memory k s (check_errors.Cone o) r w h = absurd (w o h)
weight_memory k s check_errors.Memory r w h = refl

pub weight_only_memory : {A : Type 0} (k : ℕ) (s : MarkedPolynomials) (t : Result A CheckError) → IfErr t (IsSetWeightRefusal k s) →
    IsRealisable s.variables s.items → IsSystemWithinLimits s → IfErr t (λ e. e ≡ check_errors.Memory)
weight_only_memory k s (Ok a) h r w = h
weight_only_memory k s (Err e) h r w = weight_memory k s e r w h

test_cause_never : (s : MarkedPolynomials) (e : PolyError) → AreChecksWithinLimits s → IsTestCause s e → e ≡ errors.Memory
test_cause_never s e w (IsTestCause.monic r h) = w.forms e h
test_cause_never s e w (IsTestCause.pairs r h) = w.pairs e h

pub test_memory : (s : MarkedPolynomials) (e : CheckError) → AreChecksWithinLimits s → IsTestRefusal s e → e ≡ check_errors.Memory
test_memory s (check_errors.Overflow o) w h = let z = test_cause_never s (errors.Overflow o) w h in absurd (cc)
test_memory s (check_errors.Exponent o) w h = let z = test_cause_never s (errors.Exponent o) w h in absurd (cc)
test_memory s (check_errors.NotReduced set i x) w h = elim h [ ]
test_memory s (check_errors.NotBasis set i j t) w h = elim h [ ]
test_memory s (check_errors.Inconsistent set ms) w h = elim h [ ]
test_memory s (check_errors.Cone o) w h = absurd (w.system o h)
test_memory s check_errors.Memory w h = refl

pub test_only_memory : {A : Type 0} (s : MarkedPolynomials) (t : Result A CheckError) → IfErr t (IsTestRefusal s) → AreChecksWithinLimits s →
    IfErr t (λ e. e ≡ check_errors.Memory)
test_only_memory s (Ok a) h w = h
test_only_memory s (Err e) h w = test_memory s e w h

require_cause_never : (P : Type 0) (s : MarkedPolynomials) (e : PolyError) → AreChecksWithinLimits s → IsRequireCause P s e → e ≡ errors.Memory
require_cause_never P s e w (IsRequireCause.monic h) = w.forms e h
require_cause_never P s e w (IsRequireCause.pairs r p h) = w.pairs e h

pub paired_memory : (P : Type 0) (k : ℕ) (s : MarkedPolynomials) (e : CheckError) → HaveVariables s.variables s.items → AreChecksWithinLimits s →
    IsMarkedGroebnerBasis s.variables s.items → IsPairedRefusal P k s e → e ≡ check_errors.Memory
paired_memory P k s (check_errors.Overflow o) v w g h = let z = require_cause_never P s (errors.Overflow o) w h in absurd (cc)
paired_memory P k s (check_errors.Exponent o) v w g h = let z = require_cause_never P s (errors.Exponent o) w h in absurd (cc)
paired_memory P k s (check_errors.NotReduced set i x) v w g h = elim h [ ]
paired_memory P k s (check_errors.NotBasis set i j r) v w g h = absurd (failing_refutes s.variables s.items i j r v h.3.first.remainder h.3.first.nonzero g)
paired_memory P k s (check_errors.Inconsistent set ms) v w g h = absurd (h.1.none (g.weight, g.positive, g.marks))
paired_memory P k s (check_errors.Cone o) v w g h = absurd (w.system o h)
paired_memory P k s check_errors.Memory v w g h = refl

-- what is the first of a list isn't excluded in it
pub not_excluded : (bs : List MarkedPolynomial) (i : ℕ) (b : MarkedPolynomial) (x : Exponents) (earlier later xs : List Exponents) → xs ≡ earlier ++ x ∷ later →
    NoneOffends bs i b xs → IsOffending bs i b x → ⊥
not_excluded bs i b x earlier later xs e n o = at earlier (subst (NoneOffends bs i b) e n)
  where
    at : (ys : List Exponents) → NoneOffends bs i b (ys ++ x ∷ later) → ⊥
    at [] n = n.0 o
    at (y ∷ ys) n = at ys n.1

pub no_first : (bs : List MarkedPolynomial) (i : ℕ) (x : Exponents) → AreReduced bs → IsFirstOffending bs i x → ⊥
no_first bs i x a f = not_excluded bs i f.first.member x f.first.earlier f.first.later (printed_monomials f.first.member) f.first.printed
    (a i f.first.member f.first.at) f.first.offends

pub reduced_memory : (k : ℕ) (s : MarkedPolynomials) (e : CheckError) → HaveVariables s.variables s.items → AreChecksWithinLimits s →
    IsMarkedGroebnerBasis s.variables s.items → AreReduced s.items → IsReducedRefusal k s e → e ≡ check_errors.Memory
reduced_memory k s (check_errors.Overflow o) v w g a h = paired_memory (AreReduced s.items) k s (check_errors.Overflow o) v w g h
reduced_memory k s (check_errors.Exponent o) v w g a h = paired_memory (AreReduced s.items) k s (check_errors.Exponent o) v w g h
reduced_memory k s (check_errors.NotReduced set i x) v w g a h = absurd (no_first s.items i x a h.2)
reduced_memory k s (check_errors.NotBasis set i j r) v w g a h = paired_memory (AreReduced s.items) k s (check_errors.NotBasis set i j r) v w g h
reduced_memory k s (check_errors.Inconsistent set ms) v w g a h = paired_memory (AreReduced s.items) k s (check_errors.Inconsistent set ms) v w g h
reduced_memory k s (check_errors.Cone o) v w g a h = paired_memory (AreReduced s.items) k s (check_errors.Cone o) v w g h
reduced_memory k s check_errors.Memory v w g a h = refl

pub basis_only_memory : {A : Type 0} (k : ℕ) (s : MarkedPolynomials) (t : Result A CheckError) → HaveVariables s.variables s.items →
    IfErr t (IsReducedBasisRefusal k s) → AreChecksWithinLimits s → IsMarkedGroebnerBasis s.variables s.items → IfErr t (λ e. e ≡ check_errors.Memory)
basis_only_memory k s (Ok a) v h w g = h
basis_only_memory k s (Err e) v h w g = paired_memory (Unit {0}) k s e v w g h

pub reduced_only_memory : {A : Type 0} (k : ℕ) (s : MarkedPolynomials) (t : Result A CheckError) → HaveVariables s.variables s.items →
    IfErr t (IsReducedRefusal k s) → AreChecksWithinLimits s → IsMarkedGroebnerBasis s.variables s.items → AreReduced s.items →
    IfErr t (λ e. e ≡ check_errors.Memory)
reduced_only_memory k s (Ok a) v h w g q = h
reduced_only_memory k s (Err e) v h w g q = reduced_memory k s e v w g q h

pub reduction_only_memory : {A : Type 0} (bs : List MarkedPolynomial) (f : Terms) (t : Result A PolyError) → IfErr t (IsReductionRefusal bs f) →
    IsReductionWithinLimits bs f → IfErr t (λ e. e ≡ errors.Memory)
reduction_only_memory bs f (Ok a) h w = h
reduction_only_memory bs f (Err e) h w = w e h

-- ---- with other rows beside

pub forms_alone : (k : ℕ) (s : MarkedPolynomials) (d : PolyError) → IsFormRefusal s.items d → IsReducedRefusal k s (of_poly d)
forms_alone k s (errors.Overflow o) h = IsRequireCause.monic h
forms_alone k s (errors.Exponent o) h = absurd h
forms_alone k s errors.Memory h = tt

weight_alone : (k : ℕ) (s : MarkedPolynomials) (e : CheckError) → IsSetWeightRefusal k s e → IsReducedRefusal k s e
weight_alone k s (check_errors.Overflow o) h = absurd h
weight_alone k s (check_errors.Exponent o) h = absurd h
weight_alone k s (check_errors.NotReduced set i x) h = absurd h
weight_alone k s (check_errors.NotBasis set i j r) h = absurd h
weight_alone k s (check_errors.Inconsistent set ms) h = h
weight_alone k s (check_errors.Cone o) h = h
weight_alone k s check_errors.Memory h = tt

-- where no rows are beside
pub refused_alone : (k : ℕ) (s : MarkedPolynomials) (e : CheckError) → HaveVariables s.variables s.items → Each HasMarkedTerm s.items →
    IsReducedRefusalBeside [] k s e → IsReducedRefusal k s e
refused_alone k s e v m (IsReducedRefusalBeside.at_forms d h q) = subst (IsReducedRefusal k s) (sym q) (forms_alone k s d h)
refused_alone k s e v m (IsReducedRefusalBeside.at_weight h) = weight_alone k s e (weight_refused_alone k s e v m h)
refused_alone k s e v m (IsReducedRefusalBeside.at_terms r h) = terms_required k s s.items e refl (realised_beside s.variables [] s.items v m r) h
refused_alone k s e v m (IsReducedRefusalBeside.at_pairs r u h) =
    reduced_of_paired k s e (pairs_required (AreReduced s.items) k s (map monic_of s.items) e refl (realised_beside s.variables [] s.items v m r) u h)

module _ (rows : List (List ℤ)) (k : ℕ) (s : MarkedPolynomials) (v : HaveVariables s.variables s.items) (w : AreChecksWithinLimitsBeside rows s)
    (r : IsRealisableBeside s.variables rows s.items)
    (g : IsMarkedGroebnerBasis s.variables s.items) (a : AreReduced s.items) where
  weight_beside_memory : (e : CheckError) → IsWeightRefusalBeside rows k s e → e ≡ check_errors.Memory
  weight_beside_memory (check_errors.Overflow o) h = absurd h
  weight_beside_memory (check_errors.Exponent o) h = absurd h
  weight_beside_memory (check_errors.NotReduced set i x) h = absurd h
  weight_beside_memory (check_errors.NotBasis set i j t) h = absurd h
  weight_beside_memory (check_errors.Inconsistent set ms) h = absurd (h.1.none r)
  weight_beside_memory (check_errors.Cone o) h = absurd (w.system o h)
  weight_beside_memory check_errors.Memory h = refl

  terms_beside_memory : (e : CheckError) → IsTermsFault k s.items e → e ≡ check_errors.Memory
  terms_beside_memory (check_errors.Overflow o) h = absurd h
  terms_beside_memory (check_errors.Exponent o) h = absurd h
  terms_beside_memory (check_errors.NotReduced set i x) h = absurd (no_first s.items i x a h.1)
  terms_beside_memory (check_errors.NotBasis set i j t) h = absurd h
  terms_beside_memory (check_errors.Inconsistent set ms) h = absurd h
  terms_beside_memory (check_errors.Cone o) h = absurd h
  terms_beside_memory check_errors.Memory h = refl

  pairs_beside_memory : (e : CheckError) → IsPairsFault k (map monic_of s.items) e → e ≡ check_errors.Memory
  pairs_beside_memory (check_errors.Overflow o) h = let z = w.pairs (errors.Overflow o) h in absurd (cc)
  pairs_beside_memory (check_errors.Exponent o) h = let z = w.pairs (errors.Exponent o) h in absurd (cc)
  pairs_beside_memory (check_errors.NotReduced set i x) h = absurd h
  pairs_beside_memory (check_errors.NotBasis set i j t) h = absurd (failing_refutes s.variables s.items i j t v h.1.first.remainder h.1.first.nonzero g)
  pairs_beside_memory (check_errors.Inconsistent set ms) h = absurd h
  pairs_beside_memory (check_errors.Cone o) h = absurd h
  pairs_beside_memory check_errors.Memory h = refl

  beside_memory : (e : CheckError) → IsReducedRefusalBeside rows k s e → e ≡ check_errors.Memory
  beside_memory e (IsReducedRefusalBeside.at_forms d h q) = q ∙ ap of_poly (w.forms d h)
  beside_memory e (IsReducedRefusalBeside.at_weight h) = weight_beside_memory e h
  beside_memory e (IsReducedRefusalBeside.at_terms b h) = terms_beside_memory e h
  beside_memory e (IsReducedRefusalBeside.at_pairs b u h) = pairs_beside_memory e h

pub beside_only_memory : {A : Type 0} (rows : List (List ℤ)) (k : ℕ) (s : MarkedPolynomials) (t : Result A CheckError) → HaveVariables s.variables s.items →
    IfErr t (IsReducedRefusalBeside rows k s) → AreChecksWithinLimitsBeside rows s → IsRealisableBeside s.variables rows s.items →
    IsMarkedGroebnerBasis s.variables s.items → AreReduced s.items → IfErr t (λ e. e ≡ check_errors.Memory)
beside_only_memory rows k s (Ok a) v h w r g q = h
beside_only_memory rows k s (Err e) v h w r g q = beside_memory rows k s v w r g q e h
