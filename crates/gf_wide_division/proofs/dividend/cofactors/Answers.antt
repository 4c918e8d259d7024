use Rattle.std.proofs.Common.{◌∙◌}
use Rattle.gf_division.proofs.SPolynomialLaws.{divides_left, divides_right, join_length, cofactors_of}
use Rattle.gf_wide_division.proofs.dividend.cofactors.Goals as goal

pub quotient-requires-clause-same_variables : goal.quotient-requires-clause-same_variables
quotient-requires-clause-same_variables c = join_length c.args.x.now c.args.y.now c.lcm-multiple.result c.requires c.lcm-multiple.ensures

pub quotient-requires-clause-divides : goal.quotient-requires-clause-divides
quotient-requires-clause-divides c = divides_left c.args.x.now c.args.y.now c.lcm-multiple.result c.lcm-multiple.ensures

pub quotient-requires-2-clause-same_variables : goal.quotient-requires-2-clause-same_variables
quotient-requires-2-clause-same_variables c = join_length c.args.x.now c.args.y.now c.lcm-multiple.result c.requires c.lcm-multiple.ensures ∙ c.requires

pub quotient-requires-2-clause-divides : goal.quotient-requires-2-clause-divides
quotient-requires-2-clause-divides c = divides_right c.args.x.now c.args.y.now c.lcm-multiple.result c.lcm-multiple.ensures

pub returns : goal.returns
returns c = cofactors_of c.args.x.now c.args.y.now c.lcm-multiple.result c.quotient.result c.quotient-2.result c.requires c.lcm-multiple.ensures
    c.quotient.ensures.value c.quotient-2.ensures.value c.quotient.ensures.product c.quotient-2.ensures.product
