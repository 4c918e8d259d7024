use Rattle.gf_division.proofs.ChainLaws.{turned_odd, turned_even}
use Rattle.gf_division.proofs.chains.turned_by_one.Goals as goal

pub returns-then-steps-eq1 : goal.returns-then-steps-eq1
returns-then-steps-eq1 c = turned_odd c.args.steps c.args.coef.now c.neg.result c.if-steps-eq1.true c.neg.ensures

pub returns : goal.returns
returns c = turned_even c.args.steps c.args.coef.now c.if-steps-eq1.false
