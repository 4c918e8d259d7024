use Rattle.std.proofs.Common.{ap}
use Rattle.gf_frac.specs.Fraction.{whole}
use Rattle.gf_whole_division.proofs.CombinationLaws.{moved_refl, moved_trans, total_plain, total_moved}
use Rattle.gf_whole_division.proofs.combinations.Halves.finish.Goals as goal

pub returns-then-is_one : goal.returns-then-is_one
returns-then-is_one c = total_plain (whole c.args.by.now) c.args.self.now (ap whole (c.is_one.ensures.0 c.if-is_one.true))

pub terms-init : goal.terms-init
terms-init c = moved_refl (whole c.args.by.now) c.args.self.now

pub terms-preserved : goal.terms-preserved
terms-preserved c =
    moved_trans (whole c.args.by.now) c.args.self.now c.terms.self c.pass.new.self c.terms.invariant c.in_ok-pass.ensures.moved

pub terms-smaller : goal.terms-smaller
terms-smaller c = c.in_ok-pass.ensures.shorter (c.is_done.ensures.no c.terms-test.true)

pub returns : goal.returns
returns c = total_moved (whole c.args.by.now) c.args.self.now c.terms.self c.terms.invariant (c.is_done.ensures.yes c.terms-test.false)
