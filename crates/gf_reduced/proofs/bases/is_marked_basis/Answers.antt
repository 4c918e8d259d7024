use Rattle.std.proofs.lemmas.Result.{err_from_is_err_and}
use Rattle.gf_reduced.proofs.CallLaws.{forms_by, weight_by, shared_by, tested}
use Rattle.gf_reduced.proofs.RefusalLaws.{form_tested, pairs_tested, step_tested}
use Rattle.gf_reduced.proofs.bases.is_marked_basis.Goals as goal

pub returns-in_err-has_weight-clause-err : goal.returns-in_err-has_weight-clause-err
returns-in_err-has_weight-clause-err c =
    let p = err_from_is_err_and c.from_residual.result c.from_residual.ensures.1 in
    rw (p.1, p.2) (step_tested c.args.marked.now c.in_err-has_weight.field-0.0 c.in_err-has_weight.ensures.err)

pub returns-in_err-forms-clause-err : goal.returns-in_err-forms-clause-err
returns-in_err-forms-clause-err c =
    let p = err_from_is_err_and c.from_residual-in_err-forms.result c.from_residual-in_err-forms.ensures.1 in
    rw (p.1, p.2) (form_tested c.args.marked.now c.in_err-forms.field-0.0 (c.in_ok-has_weight.ensures.ok.0 c.if-not-branch.false) c.in_err-forms.ensures.cause)

pub are_all_passed-requires-clause-marked : goal.are_all_passed-requires-clause-marked
are_all_passed-requires-clause-marked c = weight_by c.args.marked.now c.items-2.result.now
    (forms_by c.args.marked.now c.in_ok-forms.forms c.items-2.result.now c.in_ok-forms.ensures.value c.items-2.ensures.value)
    (c.in_ok-has_weight.ensures.ok.0 c.if-not-branch.false)

pub returns-in_err-are-clause-err : goal.returns-in_err-are-clause-err
returns-in_err-are-clause-err c =
    let p = err_from_is_err_and c.from_residual-in_err-are.result c.from_residual-in_err-are.ensures.1 in
    rw (p.1, p.2) (pairs_tested c.args.marked.now c.items-2.result.now c.in_err-are.field-0.0
    (forms_by c.args.marked.now c.in_ok-forms.forms c.items-2.result.now c.in_ok-forms.ensures.value c.items-2.ensures.value)
    (c.in_ok-has_weight.ensures.ok.0 c.if-not-branch.false) c.in_err-are.ensures.cause)

pub returns-clause-ok : goal.returns-clause-ok
returns-clause-ok c = tested c.args.marked.now c.items-2.result.now c.in_ok-are.are
    (forms_by c.args.marked.now c.in_ok-forms.forms c.items-2.result.now c.in_ok-forms.ensures.value c.items-2.ensures.value) c.items.ensures.variables
    (c.in_ok-has_weight.ensures.ok.0 c.if-not-branch.false) c.in_ok-are.ensures.yes c.in_ok-are.ensures.no

pub are_all_passed-requires-clause-variables : goal.are_all_passed-requires-clause-variables
are_all_passed-requires-clause-variables c = shared_by c.in_ok-forms.forms.variables c.items-2.result.now c.in_ok-forms.forms.items c.items-2.ensures.value
    c.items-2.ensures.variables
