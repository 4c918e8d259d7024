use Rattle.gf_saturate.proofs.StepLaws.{contains_at}
use Rattle.gf_saturate.proofs.grades.differences.Goals as goal

pub with_polynomial-requires-clause-variables : goal.with_polynomial-requires-clause-variables
with_polynomial-requires-clause-variables c =
    c.requires.each c.index-set-i.result (contains_at c.args.set.now c.polynomials.i c.index-set-i.result c.polynomials-test.true c.index-set-i.is)
