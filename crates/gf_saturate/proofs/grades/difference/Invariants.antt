use Rattle.std.proofs.Common.{◌≡◌, length}
use Rattle.gf_order.specs.Weights.{AreBounded}
use Rattle.gf_saturate.proofs.grades.difference.Given as goal

abbrev pub invariant-entries : goal.invariant-entries
invariant-entries l = (length l.entries.items ≡ l.i) × AreBounded l.entries.items
