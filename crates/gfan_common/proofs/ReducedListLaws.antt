-- Lists of marked sets that are read as reduced bases: how the first that isn't one is told, and that it is told in one way.
-- To cite: first_refused, all_reduced, refused_named, refused_within, check_kind, refused_once, refused_refutes, list_read. The rest are steps.
use Rattle.std.specs.Prelude.{◌≡◌, ◌⊎◌, ℕ, zero, suc, ◌+◌, ◌<◌, List, [], ◌∷◌, length, take, Contains, Some}
use Rattle.std.specs.List.{AllZip}
use Rattle.std.proofs.Common.{arith, subst, inl, inr, get_or}
use Rattle.gf_int_theory.proofs.ListLaws.{Contains-here}
use Rattle.gf_poly.specs.Marking.{MarkedPolynomials, Each}
use Rattle.gf_ideal_theory.proofs.ListLaws.{Contains-there}
use Rattle.gf_reduced.specs.declared.error.CheckError.{CheckError}
use Rattle.gf_reduced.specs.declared.error.CheckError.TheVariants as check_errors
use Rattle.gf_reduced.specs.Refusals.{IsReducedRefusal}
use Rattle.gf_reduced.proofs.RefusalLaws.{reduced_memory}
use Rattle.gf_items.specs.Items.{IsTextOf, from}
use Rattle.gf_items.specs.Sources.{ring_marked_sets}
use Rattle.gf_items.specs.Refusals.{IsOfTest, IsOfNumbers, TellsSame}
use Rattle.gfan_common.specs.CheckedSets.{of_check}
use Rattle.gfan_common.specs.ReducedSets.{IsReducedAsRead, AreReducedAsRead, IsRefusedFrom, IsCheckedWithin}
use Rattle.gfan_common.specs.Refused.{IsNamedBy}
use Rattle.gfan_common.proofs.ReadSetLaws.{IsSetKept, set_variables, list_kept}
use Rattle.gfan_common.proofs.CheckedSetLaws.{reduced_refutes, reduced_once, named_reduced}
use Rattle.gfan_common.proofs.ZipLaws.{zip_there}

-- the sets before a place are taken, and the one there isn't
refused_at : (k i : ℕ) (sets bases : List MarkedPolynomials) (s : MarkedPolynomials) (e : CheckError) → i < length sets → s ≡ get_or sets i s →
    AllZip IsReducedAsRead (take i sets) bases → IsReducedRefusal (k + i) s e → IsRefusedFrom k sets e
refused_at k i [] bases s e l q z h = absurd (omega arith)
refused_at k zero (r ∷ sets) bases s e l q z h =
    let there : k + zero ≡ k = omega arith in
    inl (subst (λ (x : MarkedPolynomials). IsReducedRefusal k x e) q (subst (λ (n : ℕ). IsReducedRefusal n s e) there h))
refused_at k (suc i) (r ∷ sets) [] s e l q z h = absurd z
refused_at k (suc i) (r ∷ sets) (t ∷ bases) s e l q z h =
    let there : k + suc i ≡ k + 1 + i = omega arith in
    inr ((t, z.0), refused_at (k + 1) i sets bases s e (omega arith) q z.1 (subst (λ (n : ℕ). IsReducedRefusal n s e) there h))

-- the same counted from the first
pub first_refused : (i : ℕ) (sets bases : List MarkedPolynomials) (s : MarkedPolynomials) (e : CheckError) → i < length sets → s ≡ get_or sets i s →
    AllZip IsReducedAsRead (take i sets) bases → IsReducedRefusal i s e → IsRefusedFrom 0 sets e
first_refused i sets bases s e l q z h = let there : i ≡ 0 + i =
    omega arith in refused_at 0 i sets bases s e l q z (subst (λ (n : ℕ). IsReducedRefusal n s e) there h)

-- all are taken
pub all_reduced : (sets bases : List MarkedPolynomials) → AllZip IsReducedAsRead sets bases → AreReducedAsRead sets
all_reduced sets bases a = λ s c. (let t = zip_there IsReducedAsRead sets bases s a c in (t.0, t.2))

-- ---- the names in lines

pub refused_named : (k : ℕ) (ring : List (List ℕ)) (sets : List MarkedPolynomials) (e : CheckError) → Each (IsSetKept (length ring)) sets →
    IsRefusedFrom k sets e → IsNamedBy (Some ring) (of_check e)
refused_named k ring [] e v h = absurd h
refused_named k ring (s ∷ sets) e v (inl h) = named_reduced k ring s e v.0 h
refused_named k ring (s ∷ sets) e v (inr h) = refused_named (k + 1) ring sets e v.1 h.1

-- the sets of a source have the variables of its ring
pub list_read : (source : List ℕ) (v : List (List ℕ) × List MarkedPolynomials) → IsTextOf ring_marked_sets source v → Each (IsSetKept (length v.0)) v.1
list_read source v read = list_kept v.0 (from source read.read.behind) read.end v.1 read.read.two

-- ---- within limits

pub refused_within : (k : ℕ) (sets : List MarkedPolynomials) (e : CheckError) → ((s : MarkedPolynomials) → Contains sets s → IsCheckedWithin s) →
    IsRefusedFrom k sets e → e ≡ check_errors.Memory
refused_within k [] e w h = absurd h
refused_within k (s ∷ sets) e w (inl h) = let l = w s (Contains-here s sets) in reduced_memory k s e l.variables l.checks l.basis l.terms h
refused_within k (s ∷ sets) e w (inr h) = refused_within (k + 1) sets e (λ r c. w r (Contains-there s r sets c)) h.1

-- ---- sets that aren't reduced bases

-- a check is of a test, or its numbers don't fit
pub check_kind : (e : CheckError) → IsOfTest (of_check e) ⊎ IsOfNumbers (of_check e)
check_kind (check_errors.Overflow o) = inr tt
check_kind (check_errors.Exponent o) = inr tt
check_kind (check_errors.NotReduced set i x) = inl tt
check_kind (check_errors.NotBasis set i j r) = inl tt
check_kind (check_errors.Inconsistent set ms) = inl tt
check_kind (check_errors.Cone o) = inr tt
check_kind check_errors.Memory = inr tt

-- one that is taken isn't refused by a test
taken_apart : (n k : ℕ) (s t : MarkedPolynomials) (e : CheckError) → IsSetKept n s → IsOfTest (of_check e) → IsReducedRefusal k s e → IsReducedAsRead s t → ⊥
taken_apart n k s t e v o h a = reduced_refutes k s e (set_variables n s v) o h a.terms a.basis.basis.marked

pub refused_once : (n k : ℕ) (sets : List MarkedPolynomials) (e d : CheckError) → Each (IsSetKept n) sets → IsOfTest (of_check e) → IsRefusedFrom k sets e →
    IsRefusedFrom k sets d → TellsSame (of_check e) (of_check d) ⊎ IsOfNumbers (of_check d)
refused_once n k [] e d v t h g = absurd h
refused_once n k (s ∷ sets) e d v t (inl h) (inl g) = reduced_once k s e d (set_variables n s v.0) t h g
refused_once n k (s ∷ sets) e d v t (inl h) (inr g) = absurd (taken_apart n k s g.0.0 e v.0 t h g.0.1)
refused_once n k (s ∷ sets) e d v t (inr h) (inl g) = elim (check_kind d) [
  | inl o ↦ absurd (taken_apart n k s h.0.0 d v.0 o g h.0.1)
  | inr o ↦ inr o
]
refused_once n k (s ∷ sets) e d v t (inr h) (inr g) = refused_once n (k + 1) sets e d v.1 t h.1 g.1

pub refused_refutes : (n k : ℕ) (sets : List MarkedPolynomials) (e : CheckError) → Each (IsSetKept n) sets → IsOfTest (of_check e) → IsRefusedFrom k sets e →
    AreReducedAsRead sets → ⊥
refused_refutes n k [] e v t h a = h
refused_refutes n k (s ∷ sets) e v t (inl h) a = let b = a s (Contains-here s sets) in taken_apart n k s b.0 e v.0 t h b.1
refused_refutes n k (s ∷ sets) e v t (inr h) a = refused_refutes n (k + 1) sets e v.1 t h.1 (λ r c. a r (Contains-there s r sets c))
