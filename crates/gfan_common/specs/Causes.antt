-- Refusals of algorithms, as refusals of the run.
use Rattle.gf_buchberger.specs.declared.bases.BasisError.{BasisError}
use Rattle.gf_buchberger.specs.declared.bases.BasisError.TheVariants as basis_errors
use Rattle.gf_front.specs.declared.refusal.Refusal.{Refusal}
use Rattle.gf_front.specs.declared.refusal.Refusal.TheVariants as refusals
use Rattle.gf_flip.specs.declared.error.TreeError.{TreeError}
use Rattle.gf_flip.specs.declared.error.TreeError.TheVariants as tree_errors
use Rattle.gf_weights.specs.declared.error.WeightError.{WeightError}
use Rattle.gf_weights.specs.declared.error.WeightError.TheVariants as weight_errors
use Rattle.gf_gordan.specs.declared.error.GordanError.{GordanError}
use Rattle.gf_gordan.specs.declared.error.GordanError.TheVariants as gordan_errors

-- the refusal of the computation of a basis, as one of the run
abbrev pub of_basis : BasisError → Refusal
of_basis (basis_errors.Overflow x) = refusals.Overflow x
of_basis (basis_errors.Exponent x) = refusals.ExponentOverflow x
of_basis (basis_errors.PairBudget basis unsettled) = refusals.PairBudget basis unsettled
of_basis basis_errors.Memory = refusals.Memory

-- the refusal of a search over bases, as one of the run
abbrev pub of_tree : TreeError → Refusal
of_tree (tree_errors.Overflow x) = refusals.Overflow x
of_tree (tree_errors.Exponent x) = refusals.ExponentOverflow x
of_tree (tree_errors.PairBudget basis unsettled) = refusals.PairBudget basis unsettled
of_tree (tree_errors.Cone x) = refusals.ConeOverflow x.row x.op x.left x.right
of_tree tree_errors.Memory = refusals.Memory

-- the refusal of the computation of a weight or of witnesses, as one of the run
abbrev pub of_weight_error : WeightError → Refusal
of_weight_error (weight_errors.Cone o) = refusals.ConeOverflow o.row o.op o.left o.right
of_weight_error (weight_errors.Wide w) = refusals.WideVector w
of_weight_error weight_errors.Memory = refusals.Memory

-- the refusal of an elimination, as one of the run
abbrev pub of_gordan : GordanError → Refusal
of_gordan (gordan_errors.Cone o) = refusals.ConeOverflow o.row o.op o.left o.right
of_gordan gordan_errors.Memory = refusals.Memory
