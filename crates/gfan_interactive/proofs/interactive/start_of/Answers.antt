use Rattle.std.proofs.Common.{sym, subst}
use Rattle.gfan_common.specs.ReducedSets.{IsReducedAsRead}
use Rattle.gfan_interactive.specs.Interactive.{IsUnopened}
use Rattle.gfan_interactive.proofs.interactive.start_of.Goals as goal

pub returns-in-Err-clause-err : goal.returns-in-Err-clause-err
returns-in-Err-clause-err c = λ pairs. IsUnopened.at_set c.in-Err.error c.in-Err.ensures.err c.of_check.ensures

pub returns-in-Ok-new-clause-ok : goal.returns-in-Ok-new-clause-ok
returns-in-Ok-new-clause-ok c = subst (IsReducedAsRead c.args.set.now) (sym c.in-Ok-new.ensures.ok) c.in-Ok.ensures.ok

pub returns-in-Err-new-clause-err : goal.returns-in-Err-new-clause-err
returns-in-Err-new-clause-err c = λ pairs. IsUnopened.at_start c.in-Ok.basis c.in-Err-new.error c.in-Ok.ensures.ok (c.in-Err-new.ensures.err pairs)
    c.of_tree.ensures
