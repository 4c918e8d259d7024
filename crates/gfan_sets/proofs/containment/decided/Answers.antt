use Rattle.std.proofs.lemmas.Result.{err_from_is_err_and}
use Rattle.gfan_common.specs.Forms.{generators_of}
use Rattle.gfan_sets.proofs.ContainmentLaws.{member_refused, members_moved}
use Rattle.gfan_sets.proofs.containment.decided.Goals as goal

pub returns-in_err-are-clause-err : goal.returns-in_err-are-clause-err
returns-in_err-are-clause-err c =
    let p = err_from_is_err_and c.from_residual-in_err-are.result c.from_residual-in_err-are.ensures.1 in
    rw (p.1, p.2) (member_refused c.args.marked.now c.in_ok-basis.basis (generators_of c.args.set.now) c.in_err-are.field-0.0 c.in_ok-basis.ensures.basis
    c.in_ok-basis.ensures.value c.in_err-are.ensures.cause)

pub returns-clause-ok : goal.returns-clause-ok
returns-clause-ok c = members_moved c.args.marked.now c.in_ok-basis.basis (generators_of c.args.set.now) c.in_ok-are.are c.in_ok-basis.ensures.value.variables
    c.in_ok-basis.ensures.basis c.in_ok-are.ensures.ok
