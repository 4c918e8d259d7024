use Rattle.std.proofs.Common.{take}
use Rattle.std.specs.List.{AllZip}
use Rattle.gf_weights.specs.Weights.{IsPrintedWeight}
use Rattle.gfan_sets.proofs.weight_vector.weights_of.Given as goal

-- the weights of the bases so far
abbrev pub invariant-bases : goal.invariant-bases
invariant-bases l = AllZip (λ t v. IsPrintedWeight t.variables t.items v) (take l.basis-index l.bases) l.weights.items
