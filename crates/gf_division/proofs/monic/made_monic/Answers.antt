use Rattle.gf_division.proofs.MonicLaws.{copy_made, if_monic_made, if_monic_refused}
use Rattle.gf_division.proofs.monic.made_monic.Goals as goal

pub returns-then-is_monic-clause-form : goal.returns-then-is_monic-clause-form
returns-then-is_monic-clause-form c = copy_made c.args.b.now c.in_ok-copy.field-0 c.in_ok-copy.ensures (c.is_monic.ensures.yes c.if-is_monic.true)

pub returns-clause-form : goal.returns-clause-form
returns-clause-form c = if_monic_made c.args.b.now c.monic.result c.requires c.head.ensures.marked (c.is_monic.ensures.no c.if-is_monic.false)
    c.monic.ensures.value

pub returns-clause-cause : goal.returns-clause-cause
returns-clause-cause c = if_monic_refused c.args.b.now c.monic.result c.requires c.head.ensures.marked (c.is_monic.ensures.no c.if-is_monic.false)
    c.monic.ensures.cause
