use Rattle.std.proofs.Common.{◌≡◌, ℕ}
use Rattle.std.specs.Int.{bit_at}
use Rattle.gf_fan.specs.Words.{IsCutIn}
use Rattle.gf_fan.proofs.words.cut_at.Given as goal

abbrev pub invariant-loop-p : goal.invariant-loop-p
invariant-loop-p l = (i : ℕ) → bit_at l.cut i ≡ 1 → IsCutIn l.known l.indices l.b i
