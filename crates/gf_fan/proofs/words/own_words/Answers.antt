use Rattle.std.proofs.Common.{◌≡◌, ◌↔◌, ◌<◌, ◌+◌, ◌*◌, ◌/◌, ℕ, Contains, arith}
use Rattle.std.specs.Int.{bit_at}
use Rattle.gf_fan.proofs.EachLaws.{each_more, each_done}
use Rattle.gf_fan.proofs.words.own_words.Goals as goal

pub loop-b-preserved : goal.loop-b-preserved
loop-b-preserved c = each_more (λ b (w : ℕ). (j : ℕ) → j < 128 → (bit_at w j ≡ 1) ↔ Contains c.args.numbers.now (b * 128 + j)) c.loop-b.b c.own_word.result
    c.loop-b.out.items _ c.in_ok-push.ensures.items c.own_word.ensures c.loop-b.invariant

pub returns : goal.returns
returns c = each_done (λ b (w : ℕ). (j : ℕ) → j < 128 → (bit_at w j ≡ 1) ↔ Contains c.args.numbers.now (b * 128 + j)) (c.args.len / 128 + 1) c.loop-b.b
    c.loop-b.out.items (omega arith) (omega arith) c.loop-b.invariant
