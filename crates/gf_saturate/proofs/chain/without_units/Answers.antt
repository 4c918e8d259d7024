use Rattle.std.proofs.Common.{refl}
use Rattle.gf_saturate.proofs.ChainLaws.{chain_start, chain_taken, unit_saturated}
use Rattle.gf_saturate.proofs.chain.without_units.Goals as goal

pub returns-then-vanish_at_zero : goal.returns-then-vanish_at_zero
returns-then-vanish_at_zero c =
    chain_start c.args.n c.args.set.now c.product-left.result c.requires.variables c.product-left.ensures.long c.product-left.ensures.all

pub variables-init : goal.variables-init
variables-init c =
    chain_start c.args.n c.args.set.now c.product-left.result c.requires.variables c.product-left.ensures.long c.product-left.ensures.all

pub taken-left-requires-clause-long : goal.taken-left-requires-clause-long
taken-left-requires-clause-long c = c.variables.invariant.long

pub variables-preserved : goal.variables-preserved
variables-preserved c =
    chain_taken c.args.n c.variables.k c.args.set.now c.args.set.now c.args.set.now c.variables.left c.taken-left.result c.variables-test.true
    c.requires.variables c.variables.invariant
    (unit_saturated c.args.n c.variables.k c.args.set.now c.requires.variables (c.if-not-is_unit.ensures refl))
    c.taken-left.ensures.long c.taken-left.ensures.taken
