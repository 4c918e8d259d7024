use Rattle.gf_division.proofs.ChainLaws.{missed_at}
use Rattle.gf_division.proofs.chains.is_missed.Goals as goal

pub returns-then-z-i : goal.returns-then-z-i
returns-then-z-i c = λ t. missed_at c.args.mark.now c.args.x.now c.args.z.now c.variables.i c.if-x-i.true c.if-z-i.true
