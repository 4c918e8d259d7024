use Rattle.std.proofs.Common.{arith}
use Rattle.gf_lifts.proofs.LiftTailLaws.{copied_to-more}
use Rattle.gf_lifts.proofs.tails.copied_front.Goals as goal

pub lifts-init : goal.lifts-init
lifts-init c = λ j l. absurd (omega (arith, l))

pub lifts-preserved : goal.lifts-preserved
lifts-preserved c = copied_to-more c.args.copied.now c.lifts.j c.if-not-copied-j.false c.lifts.invariant

pub returns-clause-copied : goal.returns-clause-copied
returns-clause-copied c = λ j l. c.lifts.invariant j (omega (arith, l, c.lifts-test.false))
