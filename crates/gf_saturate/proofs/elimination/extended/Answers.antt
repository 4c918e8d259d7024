use Rattle.gf_saturate.proofs.StepLaws.{contains_at}
use Rattle.gf_saturate.proofs.elimination.extended.Goals as goal

pub widened_polynomial-requires : goal.widened_polynomial-requires
widened_polynomial-requires c = (
  c.args.n,
  (
    c.requires.room,
    c.requires.variables.each c.index-set-i.result
        (contains_at c.args.set.now c.polynomials.i c.index-set-i.result c.polynomials-test.true c.index-set-i.is),
  ),
)
