use Rattle.std.proofs.Common.{arith}
use Rattle.gf_lifts.proofs.LiftTailLaws.{undivided-start, undivided-end}
use Rattle.gf_lifts.proofs.tails.is_divided.Goals as goal

pub lifts-init : goal.lifts-init
lifts-init c = undivided-start c.args.lifts.now c.args.copied.now c.args.of_copy c.args.x.now c.args.tried.first c.args.tried.end c.requires.tried

pub bounds-lifts-j : goal.bounds-lifts-j
bounds-lifts-j c = omega (arith, c.lifts-test.true, c.requires.tried.within, c.requires.flags)

pub bounds-copied-j : goal.bounds-copied-j
bounds-copied-j c = omega (arith, c.lifts-test.true, c.requires.tried.within)

pub returns : goal.returns
returns c = λ _. undivided-end c.args.lifts.now c.args.copied.now c.args.of_copy c.args.x.now c.args.tried.first c.args.tried.end c.lifts.j c.requires.flags
    c.requires.tried c.lifts-test.false c.lifts.invariant
