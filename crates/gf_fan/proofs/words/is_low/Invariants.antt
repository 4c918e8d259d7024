use Rattle.std.proofs.Common.{ℕ, ◌<◌, get_or}
use Rattle.gf_fan.specs.declared.bits.RowBits.{RowBits}
use Rattle.gf_fan.specs.Bits.{IsLowOn}
use Rattle.gf_fan.proofs.words.is_low.Given as goal

abbrev pub invariant-loop-b : goal.invariant-loop-b
invariant-loop-b l = (b : ℕ) (d : RowBits) → b < l.b → IsLowOn (get_or l.row b d) (get_or l.own b 0)
