use Rattle.std.proofs.Common.{length, sym, ap, ◌∙◌}
use Rattle.gf_poly.proofs.MonomialLaws.{length-minus}
use Rattle.gf_saturate.proofs.WideningLaws.{length-variable}
use Rattle.gf_saturate.proofs.ChainLaws.{taken_none, taken_one}
use Rattle.gf_saturate.proofs.chain.taken.Goals as goal

pub divides-requires : goal.divides-requires
divides-requires c = ap length c.variable-one.ensures ∙ length-variable c.args.n c.args.k c.requires.inside ∙ sym c.requires.long

pub returns-then-not-divides-clause-long : goal.returns-then-not-divides-clause-long
returns-then-not-divides-clause-long c = ap length c.copy.ensures ∙ c.requires.long

pub returns-then-not-divides-clause-taken : goal.returns-then-not-divides-clause-taken
returns-then-not-divides-clause-taken c = taken_none c.args.k c.args.left.now c.copy.result c.copy.ensures

pub quotient-requires-clause-same_variables : goal.quotient-requires-clause-same_variables
quotient-requires-clause-same_variables c = c.requires.long ∙ sym (ap length c.variable-one.ensures ∙ length-variable c.args.n c.args.k c.requires.inside)

pub returns-clause-long : goal.returns-clause-long
returns-clause-long c =
    ap length c.quotient.ensures.value
    ∙ length-minus c.args.left.now c.variable-one.result
    (c.requires.long ∙ sym (ap length c.variable-one.ensures ∙ length-variable c.args.n c.args.k c.requires.inside))
    ∙ c.requires.long

pub returns-clause-taken : goal.returns-clause-taken
returns-clause-taken c =
    taken_one c.args.n c.args.k c.args.left.now c.variable-one.result c.quotient.result c.requires.inside c.variable-one.ensures c.quotient.ensures.product
