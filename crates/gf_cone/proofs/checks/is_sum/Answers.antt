use Rattle.std.proofs.Common.{arith}
use Rattle.gf_cone.proofs.CrossingLaws.{sum_by_entries}
use Rattle.gf_cone.proofs.checks.is_sum.Goals as goal

pub returns : goal.returns
returns c = λ t. sum_by_entries c.args.a.now c.args.b.now c.args.c.now c.requires.second c.requires.third
    (λ i l. c.loop-i.invariant i (omega (arith, l, c.loop-i-test.false)))
