use Rattle.std.proofs.Common.{arith}
use Rattle.gf_division.proofs.ChainLaws.{along-more, along-end}
use Rattle.gf_division.proofs.chains.are_along.Goals as goal

pub variables-preserved : goal.variables-preserved
variables-preserved c = along-more c.args.steps c.args.mark.now c.args.other.now c.args.x.now c.args.z.now c.variables.i
    (c.is_moved.ensures c.if-not-is_moved.false) c.variables.invariant

pub returns-clause-along : goal.returns-clause-along
returns-clause-along c = λ t. along-end c.args.steps c.args.mark.now c.args.other.now c.args.x.now c.args.z.now c.variables.i
    (omega arith) (omega arith) (omega arith) (omega arith) c.variables.invariant
