use Rattle.std.proofs.lemmas.Result.{err_from_is_err_and}
use Rattle.gf_lifts.proofs.LiftRefusalSteps.{member_refused}
use Rattle.std.proofs.Common.{sym}
use Rattle.gf_lifts.proofs.LiftSteps.{lifting_more}
use Rattle.gf_lifts.proofs.literal.literal_lifts.Goals as goal

pub lift-requires-clause-liftable : goal.lift-requires-clause-liftable
lift-requires-clause-liftable c = c.requires.liftable c.index-items-i.result (c.members.i, c.members-test.true, sym c.index-items-i.is)

pub members-preserved : goal.members-preserved
members-preserved c = lifting_more c.args.by.now.variables c.args.by.now.items c.args.items.now c.members.i c.index-items-i.result c.in_ok-lifted.lifted
    c.members.all.items c.push.new.self.items c.members-test.true c.index-items-i.is c.in_ok-lifted.ensures.value c.in_ok-lifted.ensures.variables
    c.in_ok-push.ensures.items c.members.invariant

pub returns-in_err-lifted-clause-cause : goal.returns-in_err-lifted-clause-cause
returns-in_err-lifted-clause-cause c =
    let p = err_from_is_err_and c.from_residual-in_err-lifted.result c.from_residual-in_err-lifted.ensures.1 in
    rw (p.1, p.2) (member_refused c.args.by.now.items c.args.items.now c.index-items-i.result _ (c.members.i, c.members-test.true, sym c.index-items-i.is)
    c.in_err-lifted.ensures.cause)
