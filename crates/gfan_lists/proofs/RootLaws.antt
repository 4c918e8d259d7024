-- Why a list has no first basis: each refusal is told in one way, and none but for want of memory where the work stays within its limits.
-- To cite: IsGivenKept, unrooted_work, unrooted_unlisted, unrooted_numbers, unrooted_refutes, unrooted_same, unrooted_within, unrooted_named. The rest are
-- steps.
use Rattle.std.specs.Prelude.{◌≡◌, ◌⊎◌, ℕ, Bool, true, false, List, length, Some, Err}
use Rattle.std.proofs.Common.{sym, ap, ◌∙◌, subst, inr}
use Rattle.gf_poly.specs.Marking.{MarkedPolynomials, HaveVariables}
use Rattle.gf_reduced.specs.declared.error.CheckError.{CheckError}
use Rattle.gf_reduced.specs.declared.error.CheckError.TheVariants as check_errors
use Rattle.gf_reduced.specs.Markings.{IsMarkedGroebnerBasis}
use Rattle.gf_reduced.specs.Refusals.{of_poly, IsReducedBasisRefusal}
use Rattle.gf_reduced.proofs.RefusalLaws.{basis_only_memory}
use Rattle.gf_facets_theory.specs.Regions.{Region}
use Rattle.gf_front.specs.declared.refusal.Refusal.{Refusal}
use Rattle.gf_front.specs.declared.refusal.Refusal.TheVariants as refusals
use Rattle.gf_items.specs.Refusals.{IsOfTest, IsOfNumbers, TellsSame, IsOfWork}
use Rattle.gfan_common.specs.Causes.{of_basis, of_tree}
use Rattle.gfan_common.specs.CheckedSets.{of_check}
use Rattle.gfan_common.specs.Refused.{IsNamedBy}
use Rattle.gfan_lists.specs.GivenBasis.{IsReducingRefusal, IsGivenRootRefusal}
use Rattle.gfan_lists.specs.Within.{IsGivenRegionRootRefusal}
use Rattle.gfan_lists.specs.After.{Given, names_given, IsBasisGiven, IsUnrooted}
use Rattle.gfan_lists.specs.ListCommand.{IsReducedWithin, IsRootWithin}
use Rattle.gfan_common.proofs.CauseLaws.{basis_work, basis_not_listed, basis_untested, basis_numbers, basis_named_by, named_tree, tree_no_limit, tree_numbers}
use Rattle.gfan_common.proofs.CauseLaws.{tree_untested, tree_work}
use Rattle.gfan_common.proofs.CheckedSetLaws.{check_not_listed, check_work, named_check, named_numbers, paired_once, paired_refutes, poly_numbers}
use Rattle.gfan_common.proofs.CheckedSetLaws.{poly_untested}
use Rattle.gfan_common.proofs.ReadSetLaws.{IsSetKept, set_variables}

-- ---- a set that isn't taken, or not reduced

reducing_work : (s : MarkedPolynomials) (r : Refusal) → IsReducingRefusal s r → IsOfWork r
reducing_work s r (IsReducingRefusal.at_check e h q) = subst IsOfWork (sym q) (check_work e)
reducing_work s r (IsReducingRefusal.at_tails t d g a h q) = subst IsOfWork (sym q) (check_work (of_poly d))

reducing_unlisted : (s : MarkedPolynomials) (r : Refusal) → IsReducingRefusal s r → (most : ℕ) → r ≡ refusals.ListLimit most → ⊥
reducing_unlisted s r (IsReducingRefusal.at_check e h q) most l = check_not_listed e most (sym l ∙ q)
reducing_unlisted s r (IsReducingRefusal.at_tails t d g a h q) most l = check_not_listed (of_poly d) most (sym l ∙ q)

reducing_named : (ring : List (List ℕ)) (s : MarkedPolynomials) (r : Refusal) → s.variables ≡ length ring → HaveVariables s.variables s.items →
    IsReducingRefusal s r → IsNamedBy (Some ring) r
reducing_named ring s r q v (IsReducingRefusal.at_check e h p) = subst (IsNamedBy (Some ring)) (sym p) (named_check (Unit {0}) 0 ring s e q v h)
reducing_named ring s r q v (IsReducingRefusal.at_tails t d g a h p) = subst (IsNamedBy (Some ring)) (sym p) (named_numbers ring d)

module _ (s : MarkedPolynomials) (v : HaveVariables s.variables s.items) where
  -- of a basis only numbers refuse it
  basis_check : (e : CheckError) → IsMarkedGroebnerBasis s.variables s.items → IsReducedBasisRefusal 0 s e → IsOfNumbers (of_check e)
  basis_check (check_errors.Overflow o) g h = tt
  basis_check (check_errors.Exponent o) g h = tt
  basis_check (check_errors.NotReduced set i x) g h = absurd h
  basis_check (check_errors.NotBasis set i j r) g h = absurd (paired_refutes (Unit {0}) 0 s (check_errors.NotBasis set i j r) v tt h g)
  basis_check (check_errors.Inconsistent set ms) g h = absurd (paired_refutes (Unit {0}) 0 s (check_errors.Inconsistent set ms) v tt h g)
  basis_check (check_errors.Cone o) g h = tt
  basis_check check_errors.Memory g h = tt

  reducing_numbers : (r : Refusal) → IsMarkedGroebnerBasis s.variables s.items → IsReducingRefusal s r → IsOfNumbers r
  reducing_numbers r g (IsReducingRefusal.at_check e h q) = subst IsOfNumbers (sym q) (basis_check e g h)
  reducing_numbers r g (IsReducingRefusal.at_tails t d m a h q) = subst IsOfNumbers (sym q) (poly_numbers d)

  -- a test of the set isn't told where the set is a basis
  reducing_refutes : (r : Refusal) → IsOfTest r → IsReducingRefusal s r → IsMarkedGroebnerBasis s.variables s.items → ⊥
  reducing_refutes r t (IsReducingRefusal.at_check e h q) g = paired_refutes (Unit {0}) 0 s e v (subst IsOfTest q t) h g
  reducing_refutes r t (IsReducingRefusal.at_tails u d b a h q) g = poly_untested d (subst IsOfTest q t)

  reducing_once : (r d : Refusal) → IsOfTest r → IsReducingRefusal s r → IsReducingRefusal s d → TellsSame r d ⊎ IsOfNumbers d
  reducing_once r d t (IsReducingRefusal.at_check e h q) (IsReducingRefusal.at_check f k p) =
      let once = paired_once (Unit {0}) (Unit {0}) 0 s e f v (subst IsOfTest q t) h k in
      subst (λ x. TellsSame r x ⊎ IsOfNumbers x) (sym p) (subst (λ x. TellsSame x (of_check f) ⊎ IsOfNumbers (of_check f)) (sym q) once)
  reducing_once r d t h (IsReducingRefusal.at_tails u f g a k p) = inr (subst IsOfNumbers (sym p) (poly_numbers f))
  reducing_once r d t (IsReducingRefusal.at_tails u f g a h q) k = absurd (poly_untested f (subst IsOfTest q t))

  pub reducing_within : (r : Refusal) → IsReducedWithin s → IsReducingRefusal s r → r ≡ refusals.Memory
  reducing_within r w (IsReducingRefusal.at_check e h q) = q ∙ ap of_check (basis_only_memory {A = Unit {0}} 0 s (Err e) v h w.checks w.basis)
  reducing_within r w (IsReducingRefusal.at_tails t d g a h q) = q ∙ ap (λ x. of_check (of_poly x)) (w.tails t d a h)

  -- ---- no root above it

  root_once : (pairs : ℕ) (r d : Refusal) → IsOfTest r → IsGivenRootRefusal s pairs r → IsGivenRootRefusal s pairs d → TellsSame r d ⊎ IsOfNumbers d
  root_once pairs r d t (IsGivenRootRefusal.at_basis h) (IsGivenRootRefusal.at_basis k) = reducing_once r d t h k
  root_once pairs r d t h (IsGivenRootRefusal.on_the_way u f g m k p) = inr (subst IsOfNumbers (sym p) (tree_numbers f))
  root_once pairs r d t (IsGivenRootRefusal.on_the_way u e g f h q) k = absurd (tree_untested e (subst IsOfTest q t))

  region_root_once : (k : Region) (pairs : ℕ) (r d : Refusal) → IsOfTest r → IsGivenRegionRootRefusal k s pairs r → IsGivenRegionRootRefusal k s pairs d →
      TellsSame r d ⊎ IsOfNumbers d
  region_root_once k pairs r d t (IsGivenRegionRootRefusal.at_basis h) (IsGivenRegionRootRefusal.at_basis l) = reducing_once r d t h l
  region_root_once k pairs r d t h (IsGivenRegionRootRefusal.at_root u g f (e, l, q)) = inr (subst IsOfNumbers (sym q) (basis_numbers e))
  region_root_once k pairs r d t (IsGivenRegionRootRefusal.at_root u g f (e, h, q)) l = absurd (basis_untested e (subst IsOfTest q t))

-- ---- of either way

-- a marked set in the place of generators has the variables of its ring
abbrev pub IsGivenKept : (from_basis : Bool) → Given from_basis → Type 0
IsGivenKept false v = Unit {0}
IsGivenKept true v = IsSetKept (length v.0) v.1

kept_variables : (v : Given true) → IsGivenKept true v → HaveVariables v.1.variables v.1.items
kept_variables v kept = set_variables (length v.0) v.1 kept

pub unrooted_work : (from_basis in_region : Bool) (v : Given from_basis) (k : Region) (pairs : ℕ) (r : Refusal) → IsUnrooted from_basis in_region v k pairs r →
    IsOfWork r
unrooted_work false false v k pairs r h = subst IsOfWork (sym h.2) (basis_work h.0)
unrooted_work false true v k pairs r h = subst IsOfWork (sym h.2) (basis_work h.0)
unrooted_work true false v k pairs r (IsGivenRootRefusal.at_basis h) = reducing_work v.1 r h
unrooted_work true false v k pairs r (IsGivenRootRefusal.on_the_way u e g f h q) = subst IsOfWork (sym q) (tree_work e)
unrooted_work true true v k pairs r (IsGivenRegionRootRefusal.at_basis h) = reducing_work v.1 r h
unrooted_work true true v k pairs r (IsGivenRegionRootRefusal.at_root u g f (e, h, q)) = subst IsOfWork (sym q) (basis_work e)

pub unrooted_unlisted : (from_basis in_region : Bool) (v : Given from_basis) (k : Region) (pairs : ℕ) (r : Refusal) →
    IsUnrooted from_basis in_region v k pairs r → (most : ℕ) → r ≡ refusals.ListLimit most → ⊥
unrooted_unlisted false false v k pairs r h most l = basis_not_listed h.0 most (sym l ∙ h.2)
unrooted_unlisted false true v k pairs r h most l = basis_not_listed h.0 most (sym l ∙ h.2)
unrooted_unlisted true false v k pairs r (IsGivenRootRefusal.at_basis h) most l = reducing_unlisted v.1 r h most l
unrooted_unlisted true false v k pairs r (IsGivenRootRefusal.on_the_way u e g f h q) most l = tree_no_limit e most (sym q ∙ l)
unrooted_unlisted true true v k pairs r (IsGivenRegionRootRefusal.at_basis h) most l = reducing_unlisted v.1 r h most l
unrooted_unlisted true true v k pairs r (IsGivenRegionRootRefusal.at_root u g f (e, h, q)) most l = basis_not_listed e most (sym l ∙ q)

pub unrooted_numbers : (from_basis in_region : Bool) (v : Given from_basis) (k : Region) (pairs : ℕ) (r : Refusal) → IsGivenKept from_basis v →
    IsBasisGiven from_basis v → IsUnrooted from_basis in_region v k pairs r → IsOfNumbers r
unrooted_numbers false false v k pairs r s g h = subst IsOfNumbers (sym h.2) (basis_numbers h.0)
unrooted_numbers false true v k pairs r s g h = subst IsOfNumbers (sym h.2) (basis_numbers h.0)
unrooted_numbers true false v k pairs r s g (IsGivenRootRefusal.at_basis h) = reducing_numbers v.1 (kept_variables v s) r g h
unrooted_numbers true false v k pairs r s g (IsGivenRootRefusal.on_the_way u e m f h q) = subst IsOfNumbers (sym q) (tree_numbers e)
unrooted_numbers true true v k pairs r s g (IsGivenRegionRootRefusal.at_basis h) = reducing_numbers v.1 (kept_variables v s) r g h
unrooted_numbers true true v k pairs r s g (IsGivenRegionRootRefusal.at_root u m f (e, h, q)) = subst IsOfNumbers (sym q) (basis_numbers e)

pub unrooted_refutes : (from_basis in_region : Bool) (v : Given from_basis) (k : Region) (pairs : ℕ) (r : Refusal) → IsGivenKept from_basis v → IsOfTest r →
    IsUnrooted from_basis in_region v k pairs r → IsBasisGiven from_basis v → ⊥
unrooted_refutes false false v k pairs r s t h g = basis_untested h.0 (subst IsOfTest h.2 t)
unrooted_refutes false true v k pairs r s t h g = basis_untested h.0 (subst IsOfTest h.2 t)
unrooted_refutes true false v k pairs r s t (IsGivenRootRefusal.at_basis h) g = reducing_refutes v.1 (kept_variables v s) r t h g
unrooted_refutes true false v k pairs r s t (IsGivenRootRefusal.on_the_way u e m f h q) g = tree_untested e (subst IsOfTest q t)
unrooted_refutes true true v k pairs r s t (IsGivenRegionRootRefusal.at_basis h) g = reducing_refutes v.1 (kept_variables v s) r t h g
unrooted_refutes true true v k pairs r s t (IsGivenRegionRootRefusal.at_root u m f (e, h, q)) g = basis_untested e (subst IsOfTest q t)

pub unrooted_same : (from_basis in_region : Bool) (v : Given from_basis) (k : Region) (pairs : ℕ) (r d : Refusal) → IsGivenKept from_basis v → IsOfTest r →
    IsUnrooted from_basis in_region v k pairs r → IsUnrooted from_basis in_region v k pairs d → TellsSame r d ⊎ IsOfNumbers d
unrooted_same false false v k pairs r d s t h g = absurd (basis_untested h.0 (subst IsOfTest h.2 t))
unrooted_same false true v k pairs r d s t h g = absurd (basis_untested h.0 (subst IsOfTest h.2 t))
unrooted_same true false v k pairs r d s t h g = root_once v.1 (kept_variables v s) pairs r d t h g
unrooted_same true true v k pairs r d s t h g = region_root_once v.1 (kept_variables v s) k pairs r d t h g

pub unrooted_within : (from_basis in_region : Bool) (v : Given from_basis) (k : Region) (pairs : ℕ) (r : Refusal) → IsGivenKept from_basis v →
    IsRootWithin from_basis in_region pairs k v → IsUnrooted from_basis in_region v k pairs r → r ≡ refusals.Memory
unrooted_within false false v k pairs r s w h = h.2 ∙ ap of_basis (h.1.by_rule w)
unrooted_within false true v k pairs r s w h = h.2 ∙ ap of_basis (h.1.by_rule w)
unrooted_within true false v k pairs r s w (IsGivenRootRefusal.at_basis h) = reducing_within v.1 (kept_variables v s) r w.0 h
unrooted_within true false v k pairs r s w (IsGivenRootRefusal.on_the_way u e g f h q) = q ∙ ap of_tree (w.1 u e f h)
unrooted_within true true v k pairs r s w (IsGivenRegionRootRefusal.at_basis h) = reducing_within v.1 (kept_variables v s) r w.0 h
unrooted_within true true v k pairs r s w (IsGivenRegionRootRefusal.at_root u g f (e, h, q)) = q ∙ ap of_basis (h.by_rule (w.1 u f))

pub unrooted_named : (from_basis in_region : Bool) (v : Given from_basis) (k : Region) (pairs : ℕ) (r : Refusal) → IsGivenKept from_basis v →
    IsUnrooted from_basis in_region v k pairs r → IsNamedBy (Some (names_given from_basis v)) r
unrooted_named false false v k pairs r s h = subst (IsNamedBy (Some v.0)) (sym h.2) (basis_named_by (Some v.0) h.0)
unrooted_named false true v k pairs r s h = subst (IsNamedBy (Some v.0)) (sym h.2) (basis_named_by (Some v.0) h.0)
unrooted_named true false v k pairs r s (IsGivenRootRefusal.at_basis h) = reducing_named v.0 v.1 r s.0 (kept_variables v s) h
unrooted_named true false v k pairs r s (IsGivenRootRefusal.on_the_way u e g f h q) = subst (IsNamedBy (Some v.0)) (sym q) (named_tree v.0 e)
unrooted_named true true v k pairs r s (IsGivenRegionRootRefusal.at_basis h) = reducing_named v.0 v.1 r s.0 (kept_variables v s) h
unrooted_named true true v k pairs r s (IsGivenRegionRootRefusal.at_root u g f (e, h, q)) = subst (IsNamedBy (Some v.0)) (sym q) (basis_named_by (Some v.0) e)
