use Rattle.std.proofs.lemmas.Result.{err_from_is_err_and}
use Rattle.gf_reduced.proofs.CallLaws.{forms_by, weight_by, taken}
use Rattle.gf_reduced.proofs.RefusalLaws.{pairs_required, paired_memory}
use Rattle.gf_reduced.proofs.bases.require_basis.Goals as goal

pub require_pairs-requires-clause-marked : goal.require_pairs-requires-clause-marked
require_pairs-requires-clause-marked c = weight_by c.args.marked.now c.items-2.result.now
    (forms_by c.args.marked.now c.in_ok-forms.forms c.items-2.result.now c.in_ok-forms.ensures.value c.items-2.ensures.value)
    c.in_ok-positive.ensures.realisable

pub returns-in_err-require_pairs-clause-err : goal.returns-in_err-require_pairs-clause-err
returns-in_err-require_pairs-clause-err c =
    let p = err_from_is_err_and c.from_residual-in_err-require_pairs.result c.from_residual-in_err-require_pairs.ensures.1 in
    rw (p.1, p.2) (pairs_required (Unit {0}) c.args.set c.args.marked.now c.items-2.result.now c.in_err-require_pairs.field-0.0
    (forms_by c.args.marked.now c.in_ok-forms.forms c.items-2.result.now c.in_ok-forms.ensures.value c.items-2.ensures.value)
    c.in_ok-positive.ensures.realisable tt c.in_err-require_pairs.ensures.err)

pub returns-in_err-require_pairs-clause-complete : goal.returns-in_err-require_pairs-clause-complete
returns-in_err-require_pairs-clause-complete c = λ w g.
    let p = err_from_is_err_and c.from_residual-in_err-require_pairs.result c.from_residual-in_err-require_pairs.ensures.1 in
    rw (p.1, p.2) (paired_memory (Unit {0}) c.args.set c.args.marked.now c.in_err-require_pairs.field-0.0 c.items.ensures.variables w g
    (pairs_required (Unit {0}) c.args.set c.args.marked.now c.items-2.result.now c.in_err-require_pairs.field-0.0
    (forms_by c.args.marked.now c.in_ok-forms.forms c.items-2.result.now c.in_ok-forms.ensures.value c.items-2.ensures.value)
    c.in_ok-positive.ensures.realisable tt c.in_err-require_pairs.ensures.err))

pub returns-clause-basis : goal.returns-clause-basis
returns-clause-basis c = taken c.args.marked.now c.in_ok-forms.forms c.in_ok-arranged.arranged c.items-2.result.now c.in_ok-forms.ensures.value
    (forms_by c.args.marked.now c.in_ok-forms.forms c.items-2.result.now c.in_ok-forms.ensures.value c.items-2.ensures.value)
    c.items.ensures.variables c.in_ok-positive.ensures.realisable c.in_ok-require_pairs.ensures.ok c.in_ok-arranged.ensures
