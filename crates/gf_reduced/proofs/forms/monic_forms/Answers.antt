use Rattle.std.proofs.lemmas.Result.{err_from_is_err_and}
use Rattle.gf_division.proofs.ReducerLaws.{some_variables}
use Rattle.gf_reduced.proofs.FormLaws.{item_refused, forms_kept, forms_marked}
use Rattle.gf_reduced.proofs.forms.monic_forms.Goals as goal

pub monic_form-requires : goal.monic_form-requires
monic_form-requires c = some_variables c.args.marked.now.variables c.args.marked.now.items c.items-items.result.now c.members.i c.index-items-i.result
    c.items-items.ensures.value c.items-items.ensures.variables c.members-test.true c.index-items-i.is

pub returns-in_err-form-clause-cause : goal.returns-in_err-form-clause-cause
returns-in_err-form-clause-cause c =
    let p = err_from_is_err_and c.from_residual-in_err-form.result c.from_residual-in_err-form.ensures.1 in
    rw (p.1, p.2) (item_refused c.args.marked.now.items c.items-items.result.now c.members.i c.index-items-i.result c.in_err-form.field-0.0
    c.items-items.ensures.value c.members-test.true c.index-items-i.is c.in_err-form.ensures.cause)

pub new-requires : goal.new-requires
new-requires c = forms_kept c.args.marked.now.variables c.variables.result c.args.marked.now.items c.items-items.result.now c.members.forms.items c.members.i
    c.variables.ensures c.items-items.ensures.value c.items-items.ensures.variables c.members-test.false c.members.invariant

pub returns-clause-marked : goal.returns-clause-marked
returns-clause-marked c = forms_marked c.args.marked.now.items c.items-items.result.now c.members.forms.items c.members.i c.items-items.ensures.value
    c.members-test.false c.members.invariant
