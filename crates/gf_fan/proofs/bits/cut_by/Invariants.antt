use Rattle.std.proofs.Common.{◌≡◌, ℕ}
use Rattle.std.specs.Int.{bit_at}
use Rattle.gf_fan.specs.Bits.{IsExcludedBy}
use Rattle.gf_fan.proofs.bits.cut_by.Given as goal

abbrev pub invariant-loop-row : goal.invariant-loop-row
invariant-loop-row l = (i : ℕ) → bit_at l.cut i ≡ 1 → IsExcludedBy l.rows l.own i
