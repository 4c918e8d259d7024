use Rattle.std.proofs.Common.{arith}
use Rattle.gf_text.proofs.FrontsLaws.{front_over}
use Rattle.gf_text.proofs.fronts.common_front.Goals as goal

pub returns : goal.returns
returns c =
    let over = front_over c.loop-size.size c.args.left.now c.args.right.now (omega (arith, c.min-most.ensures, c.loop-size-test.false)) in
    omega (arith, over, c.loop-size.invariant.rest, c.loop-size.invariant.within, c.loop-size-test.false)
