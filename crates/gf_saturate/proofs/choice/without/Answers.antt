use Rattle.std.proofs.Common.{rules, length, sym, ap, ◌∙◌}
use Rattle.gf_poly.proofs.MonomialLaws.{length-minus}
use Rattle.gf_saturate.proofs.WideningLaws.{length-variable}
use Rattle.gf_saturate.proofs.ChoiceLaws.{chosen_less}
use Rattle.gf_saturate.proofs.choice.without.Goals as goal

pub divides-requires : goal.divides-requires
divides-requires c = ap length c.variable-one.ensures ∙ length-variable c.args.n c.args.k c.requires.inside ∙ sym c.requires.choice.long

pub quotient-less-requires-clause-same_variables : goal.quotient-less-requires-clause-same_variables
quotient-less-requires-clause-same_variables c =
    c.requires.choice.long ∙ sym (ap length c.variable-one.ensures ∙ length-variable c.args.n c.args.k c.requires.inside)

pub is_enough-requires-clause-long : goal.is_enough-requires-clause-long
is_enough-requires-clause-long c =
    ap length c.quotient-less.ensures.value
    ∙ length-minus c.args.choice.now c.variable-one.result
    (c.requires.choice.long ∙ sym (ap length c.variable-one.ensures ∙ length-variable c.args.n c.args.k c.requires.inside))
    ∙ c.requires.choice.long

pub returns-then-is_enough : goal.returns-then-is_enough
returns-then-is_enough c =
    chosen_less c.args.n c.args.set.now c.args.choice.now c.variable-one.result c.quotient-less.result c.requires.choice
    (ap length c.quotient-less.ensures.value
    ∙ length-minus c.args.choice.now c.variable-one.result
    (c.requires.choice.long ∙ sym (ap length c.variable-one.ensures ∙ length-variable c.args.n c.args.k c.requires.inside))
    ∙ c.requires.choice.long)
    c.quotient-less.ensures.value (c.is_enough.ensures (search rules))
