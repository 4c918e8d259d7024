use Rattle.gf_division.proofs.SPolynomialLaws.{divides_left, join_length}
use Rattle.gf_reduced.proofs.CriteriaLaws.{coprime_by_test}
use Rattle.gf_reduced.proofs.criteria.are_coprime.Goals as goal

pub quotient-rest-requires-clause-same_variables : goal.quotient-rest-requires-clause-same_variables
quotient-rest-requires-clause-same_variables c = join_length c.args.x.now c.args.y.now c.lcm-multiple.result c.requires c.lcm-multiple.ensures

pub quotient-rest-requires-clause-divides : goal.quotient-rest-requires-clause-divides
quotient-rest-requires-clause-divides c = divides_left c.args.x.now c.args.y.now c.lcm-multiple.result c.lcm-multiple.ensures

pub returns : goal.returns
returns c = λ t. coprime_by_test c.args.x.now c.args.y.now c.quotient-rest.result c.exponents.result.now c.exponents-2.result.now c.lcm-multiple.result
    c.eq.result c.quotient-rest.ensures.product c.lcm-multiple.ensures c.exponents.ensures.value c.exponents-2.ensures.value c.eq.ensures t
