use Rattle.std.proofs.Common.{◌≡◌, ◌↔◌, ◌<◌, ◌+◌, ℕ, take, Contains}
use Rattle.std.specs.Int.{bit_at}
use Rattle.gf_fan.proofs.words.own_word.Given as goal

abbrev pub invariant-loop-i : goal.invariant-loop-i
invariant-loop-i l = (j : ℕ) → j < 128 → (bit_at l.own j ≡ 1) ↔ Contains (take l.i-index l.numbers) (l.start + j)
