use Rattle.std.proofs.Common.{◌≡◌, ◌-◌, arith, ap, ◌∙◌}
use Rattle.std.specs.Int.{bit_at}
use Rattle.gf_fan.proofs.words.with_bit_from.Goals as goal

pub returns-then-j-lt128-clause-set : goal.returns-then-j-lt128-clause-set
returns-then-j-lt128-clause-set c = λ j l e. let s : j ≡ c.args.i - c.args.start = omega (arith, e) in ap (bit_at c.with_bit.result) s ∙ c.with_bit.ensures.set

pub returns-then-j-lt128-clause-others : goal.returns-then-j-lt128-clause-others
returns-then-j-lt128-clause-others c = λ j l n. c.with_bit.ensures.others j (λ e. n (omega (arith, e, c.if-i-start.false)))
