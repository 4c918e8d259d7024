use Rattle.std.proofs.Common.{ap, sym, length, ◌∙◌}
use Rattle.gf_division.proofs.SPolynomialLaws.{divides_left, divides_right, join_length, cofactors_of}
use Rattle.gf_whole_division.proofs.remainders.cofactors.Goals as goal

pub quotient-requires-clause-same_variables : goal.quotient-requires-clause-same_variables
quotient-requires-clause-same_variables c =
    join_length c.args.x.now c.args.y.now c.lcm-multiple.result
    (ap length (sym c.exponents.ensures.value) ∙ c.if-exponents.false ∙ ap length c.exponents-2.ensures.value) c.lcm-multiple.ensures

pub quotient-requires-clause-divides : goal.quotient-requires-clause-divides
quotient-requires-clause-divides c = divides_left c.args.x.now c.args.y.now c.lcm-multiple.result c.lcm-multiple.ensures

pub quotient-requires-2-clause-same_variables : goal.quotient-requires-2-clause-same_variables
quotient-requires-2-clause-same_variables c =
    join_length c.args.x.now c.args.y.now c.lcm-multiple.result
    (ap length (sym c.exponents.ensures.value) ∙ c.if-exponents.false ∙ ap length c.exponents-2.ensures.value) c.lcm-multiple.ensures ∙
    (ap length (sym c.exponents.ensures.value) ∙ c.if-exponents.false ∙ ap length c.exponents-2.ensures.value)

pub quotient-requires-2-clause-divides : goal.quotient-requires-2-clause-divides
quotient-requires-2-clause-divides c = divides_right c.args.x.now c.args.y.now c.lcm-multiple.result c.lcm-multiple.ensures

pub returns : goal.returns
returns c =
    cofactors_of c.args.x.now c.args.y.now c.lcm-multiple.result c.quotient.result c.quotient-2.result
    (ap length (sym c.exponents.ensures.value) ∙ c.if-exponents.false ∙ ap length c.exponents-2.ensures.value) c.lcm-multiple.ensures c.quotient.ensures.value
    c.quotient-2.ensures.value c.quotient.ensures.product c.quotient-2.ensures.product
