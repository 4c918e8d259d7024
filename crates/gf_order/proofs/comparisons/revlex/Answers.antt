use Rattle.std.proofs.Common.{sym, ◌∙◌, arith}
use Rattle.gf_exponents_theory.proofs.ExponentsLaws.{entry-past, same_lists}
use Rattle.gf_order.proofs.ComparisonLaws.{revlex_at, same_before}
use Rattle.gf_order.proofs.comparisons.revlex.Goals as goal

pub entries-init : goal.entries-init
entries-init c = (omega arith, λ j l. entry-past c.args.x.now j l ∙ sym (entry-past c.args.y.now j (omega arith)))

pub returns-then-x-i : goal.returns-then-x-i
returns-then-x-i c = revlex_at c.args.x.now c.args.y.now c.entries.i c.cmp.result (omega arith) c.entries.invariant.1 c.if-x-i.true c.cmp.ensures

pub entries-preserved : goal.entries-preserved
entries-preserved c = (omega arith, same_before c.args.x.now c.args.y.now c.entries.i (omega arith) c.entries.invariant.1 c.if-x-i.false)

pub returns : goal.returns
returns c = same_lists c.args.x.now c.args.y.now c.requires (λ j. c.entries.invariant.1 j (omega arith))
