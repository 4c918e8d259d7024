use Rattle.std.proofs.Common.{ap, length, ◌∙◌}
use Rattle.gf_saturate.proofs.StepLaws.{contains_at}
use Rattle.gf_saturate.proofs.ChoiceLaws.{enough_same, enough_twice, followed_enough}
use Rattle.gf_saturate.proofs.choice.followed_once.Goals as goal

pub polynomials-init : goal.polynomials-init
polynomials-init c = (ap length c.copy-all.ensures ∙ c.requires.long, enough_same c.args.n c.args.set.now c.args.inside.now _ c.copy-all.ensures)

pub followed-all-requires-clause-variables : goal.followed-all-requires-clause-variables
followed-all-requires-clause-variables c =
    c.requires.variables.each c.index-set-i.result (contains_at c.args.set.now c.polynomials.i c.index-set-i.result c.polynomials-test.true c.index-set-i.is)

pub polynomials-preserved : goal.polynomials-preserved
polynomials-preserved c = (
  c.followed-all.ensures.long,
  enough_twice c.args.n c.args.set.now c.args.inside.now c.polynomials.all c.followed-all.result
      (followed_enough c.args.n c.args.set.now c.index-set-i.result c.polynomials.all c.followed-all.result c.requires.variables c.polynomials.invariant.0
      (contains_at c.args.set.now c.polynomials.i c.index-set-i.result c.polynomials-test.true c.index-set-i.is)
      c.followed-all.ensures.descending c.followed-all.ensures.followed)
      c.polynomials.invariant.1,
)
