use Rattle.std.proofs.Common.{◌≡◌, ◌↔◌, ◌<◌, ◌+◌, ◌*◌, ℕ, Contains}
use Rattle.std.specs.Int.{bit_at}
use Rattle.gf_fan.specs.Signs.{AreEach}
use Rattle.gf_fan.proofs.words.own_words.Given as goal

abbrev pub invariant-loop-b : goal.invariant-loop-b
invariant-loop-b l = AreEach (λ b (w : ℕ). (j : ℕ) → j < 128 → (bit_at w j ≡ 1) ↔ Contains l.numbers (b * 128 + j)) l.b l.out.items
