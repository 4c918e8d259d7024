use Rattle.std.proofs.Common.{◌≡◌, ◌↔◌, ℕ, take, Contains}
use Rattle.std.specs.Int.{bit_at}
use Rattle.gf_fan.proofs.bits.own_bits.Given as goal

abbrev pub invariant-loop-i : goal.invariant-loop-i
invariant-loop-i l = (j : ℕ) → (bit_at l.own j ≡ 1) ↔ Contains (take l.i-index l.numbers) j
