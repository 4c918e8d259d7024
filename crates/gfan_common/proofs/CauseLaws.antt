-- Of which kind a refusal of an algorithm is, and that it names no monomials.
use Rattle.std.specs.Prelude.{◌≡◌, ℕ, List, Option, None, Some}
use Rattle.std.proofs.Common.{refl, subst, sym}
use Rattle.gf_buchberger.specs.declared.bases.BasisError.{BasisError}
use Rattle.gf_buchberger.specs.declared.bases.BasisError.TheVariants as basis_errors
use Rattle.gf_front.specs.declared.refusal.Refusal.{Refusal}
use Rattle.gf_front.specs.declared.refusal.Refusal.TheVariants as refusals
use Rattle.gf_front.specs.Kinds.{RefusalKind, kind_of_refusal, IsNumbersKind, IsTestKind, IsWorkKind}
use Rattle.gf_items.specs.Refusals.{IsOfTest, IsOfWork, IsOfNumbers}
use Rattle.gfan_common.specs.Causes.{of_weight_error, of_tree, of_basis, of_gordan}
use Rattle.gf_flip.specs.declared.error.TreeError.{TreeError}
use Rattle.gf_flip.specs.declared.error.TreeError.TheVariants as tree_errors
use Rattle.gfan_common.specs.Refused.{IsNamedBy, IsUnnamed, without_names}
use Rattle.gf_weights.specs.declared.error.WeightError.{WeightError}
use Rattle.gf_weights.specs.declared.error.WeightError.TheVariants as weight_errors
use Rattle.gf_gordan.specs.declared.error.GordanError.{GordanError}
use Rattle.gf_gordan.specs.declared.error.GordanError.TheVariants as gordan_errors

-- ---- refusals of numbers

kind_of_work : (k : RefusalKind) → IsNumbersKind k → IsWorkKind k
kind_of_work RefusalKind.numbers h = tt
kind_of_work RefusalKind.memory h = tt
kind_of_work _ h = absurd h

pub numbers_work : (r : Refusal) → IsOfNumbers r → IsOfWork r
numbers_work r h = kind_of_work (kind_of_refusal r) h

kinds_apart : (k : RefusalKind) → IsNumbersKind k → IsTestKind k → ⊥
kinds_apart RefusalKind.numbers h t = t
kinds_apart RefusalKind.memory h t = t
kinds_apart _ h t = h

pub numbers_untested : (r : Refusal) → IsOfNumbers r → IsOfTest r → ⊥
numbers_untested r h t = kinds_apart (kind_of_refusal r) h t

-- they name no monomials
pub numbers_named : (ring : Option (List (List ℕ))) (r : Refusal) → IsOfNumbers r → IsNamedBy ring r
numbers_named ring (refusals.NotReduced set polynomial term) h = absurd h
numbers_named ring (refusals.NotBasis set first second remainder) h = absurd h
numbers_named ring (refusals.NotHomogeneous polynomial first second) h = absurd h
numbers_named ring (refusals.NotListed side index remainder) h = absurd h
numbers_named ring _ h = λ lent is. tt

pub numbers_unnamed : (r : Refusal) → IsOfNumbers r → IsUnnamed (without_names r)
numbers_unnamed r h = record { ring = refl; named = numbers_named None r h }

-- the limit of a list is none of them
pub numbers_not_listed : (r : Refusal) (most : ℕ) → IsOfNumbers r → refusals.ListLimit most ≡ r → ⊥
numbers_not_listed r most h q = subst IsOfNumbers (sym q) h

-- ---- runs of Buchberger's algorithm

pub basis_numbers : (e : BasisError) → IsOfNumbers (of_basis e)
basis_numbers (basis_errors.Overflow o) = tt
basis_numbers (basis_errors.Exponent o) = tt
basis_numbers (basis_errors.PairBudget b u) = tt
basis_numbers basis_errors.Memory = tt

pub basis_work : (e : BasisError) → IsOfWork (of_basis e)
basis_work e = numbers_work (of_basis e) (basis_numbers e)

pub basis_not_listed : (e : BasisError) (most : ℕ) → refusals.ListLimit most ≡ of_basis e → ⊥
basis_not_listed e most q = numbers_not_listed (of_basis e) most (basis_numbers e) q

pub basis_untested : (e : BasisError) → IsOfTest (of_basis e) → ⊥
basis_untested e t = numbers_untested (of_basis e) (basis_numbers e) t

pub basis_named_by : (names : Option (List (List ℕ))) (e : BasisError) → IsNamedBy names (of_basis e)
basis_named_by names e = numbers_named names (of_basis e) (basis_numbers e)

pub unnamed_basis : (e : BasisError) → IsUnnamed (without_names (of_basis e))
unnamed_basis e = numbers_unnamed (of_basis e) (basis_numbers e)

-- ---- searches over bases

pub tree_numbers : (e : TreeError) → IsOfNumbers (of_tree e)
tree_numbers (tree_errors.Overflow o) = tt
tree_numbers (tree_errors.Exponent o) = tt
tree_numbers (tree_errors.PairBudget b u) = tt
tree_numbers (tree_errors.Cone s) = tt
tree_numbers tree_errors.Memory = tt

pub tree_work : (e : TreeError) → IsOfWork (of_tree e)
tree_work e = numbers_work (of_tree e) (tree_numbers e)

pub tree_not_listed : (e : TreeError) (most : ℕ) → refusals.ListLimit most ≡ of_tree e → ⊥
tree_not_listed e most q = numbers_not_listed (of_tree e) most (tree_numbers e) q

pub tree_no_limit : (e : TreeError) (most : ℕ) → of_tree e ≡ refusals.ListLimit most → ⊥
tree_no_limit e most q = tree_not_listed e most (sym q)

pub tree_untested : (e : TreeError) → IsOfTest (of_tree e) → ⊥
tree_untested e t = numbers_untested (of_tree e) (tree_numbers e) t

pub unnamed_tree : (e : TreeError) → IsUnnamed (without_names (of_tree e))
unnamed_tree e = numbers_unnamed (of_tree e) (tree_numbers e)

pub named_tree : (ring : List (List ℕ)) (e : TreeError) → IsNamedBy (Some ring) (of_tree e)
named_tree ring e = numbers_named (Some ring) (of_tree e) (tree_numbers e)

-- ---- weights and witnesses

pub weight_numbers : (e : WeightError) → IsOfNumbers (of_weight_error e)
weight_numbers (weight_errors.Cone s) = tt
weight_numbers (weight_errors.Wide w) = tt
weight_numbers weight_errors.Memory = tt

pub weight_work : (e : WeightError) → IsOfWork (of_weight_error e)
weight_work e = numbers_work (of_weight_error e) (weight_numbers e)

pub weight_not_listed : (e : WeightError) (most : ℕ) → refusals.ListLimit most ≡ of_weight_error e → ⊥
weight_not_listed e most q = numbers_not_listed (of_weight_error e) most (weight_numbers e) q

pub weight_untested : (e : WeightError) → IsOfTest (of_weight_error e) → ⊥
weight_untested e t = numbers_untested (of_weight_error e) (weight_numbers e) t

pub unnamed_weight : (e : WeightError) → IsUnnamed (without_names (of_weight_error e))
unnamed_weight e = numbers_unnamed (of_weight_error e) (weight_numbers e)

-- ---- eliminations

pub gordan_numbers : (e : GordanError) → IsOfNumbers (of_gordan e)
gordan_numbers (gordan_errors.Cone o) = tt
gordan_numbers gordan_errors.Memory = tt

pub gordan_work : (e : GordanError) → IsOfWork (of_gordan e)
gordan_work e = numbers_work (of_gordan e) (gordan_numbers e)

pub gordan_not_listed : (e : GordanError) (most : ℕ) → refusals.ListLimit most ≡ of_gordan e → ⊥
gordan_not_listed e most q = numbers_not_listed (of_gordan e) most (gordan_numbers e) q

pub gordan_untested : (e : GordanError) → IsOfTest (of_gordan e) → ⊥
gordan_untested e t = numbers_untested (of_gordan e) (gordan_numbers e) t

pub named_gordan : (e : GordanError) → IsNamedBy None (of_gordan e)
named_gordan e = numbers_named None (of_gordan e) (gordan_numbers e)

-- ---- memory

pub memory_untested : (r : Refusal) → IsOfTest r → r ≡ refusals.Memory → ⊥
memory_untested r t m = subst IsOfTest m t
