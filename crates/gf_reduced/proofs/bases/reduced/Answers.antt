use Rattle.std.proofs.Common.{refl, subst}
use Rattle.std.proofs.lemmas.Result.{err_from_is_err_and}
use Rattle.gf_reduced.specs.Terms.{AreReduced}
use Rattle.gf_reduced.specs.Refusals.{IsReducedRefusalBeside, IsWeightRefusalBeside, IsTermsFault, IsPairsFault}
use Rattle.gf_reduced.proofs.CallLaws.{forms_by, weight_by, shared_by, taken_reduced}
use Rattle.gf_reduced.proofs.WeightLaws.{realised_beside}
use Rattle.gf_reduced.proofs.RefusalLaws.{refused_alone, forms_alone}
use Rattle.gf_reduced.proofs.bases.reduced.Goals as goal

pub returns-in_err-forms-clause-err : goal.returns-in_err-forms-clause-err
returns-in_err-forms-clause-err c =
    let p = err_from_is_err_and c.from_residual.result c.from_residual.ensures.1 in
    rw (p.1, p.2) (IsReducedRefusalBeside.at_forms c.in_err-forms.field-0.0 c.in_err-forms.ensures.cause refl)

pub returns-in_err-forms-clause-alone : goal.returns-in_err-forms-clause-alone
returns-in_err-forms-clause-alone c = λ none.
    let p = err_from_is_err_and c.from_residual.result c.from_residual.ensures.1 in
    rw (p.1, p.2) (forms_alone c.args.set c.args.marked.now c.in_err-forms.field-0.0 c.in_err-forms.ensures.cause)

pub returns-in_err-positive_beside-clause-err : goal.returns-in_err-positive_beside-clause-err
returns-in_err-positive_beside-clause-err c =
    let p = err_from_is_err_and c.from_residual-in_err-positive_beside.result c.from_residual-in_err-positive_beside.ensures.1 in
    rw (p.1, p.2) (IsReducedRefusalBeside.at_weight c.in_err-positive_beside.ensures.err)

pub returns-in_err-positive_beside-clause-alone : goal.returns-in_err-positive_beside-clause-alone
returns-in_err-positive_beside-clause-alone c = λ none.
    let p = err_from_is_err_and c.from_residual-in_err-positive_beside.result c.from_residual-in_err-positive_beside.ensures.1 in
    rw (p.1, p.2) (refused_alone c.args.set c.args.marked.now c.in_err-positive_beside.field-0.0 c.items.ensures.variables c.in_ok-forms.ensures.marked
    (IsReducedRefusalBeside.at_weight (subst (λ rows. IsWeightRefusalBeside rows c.args.set c.args.marked.now c.in_err-positive_beside.field-0.0)
    none c.in_err-positive_beside.ensures.err)))

-- a term offends, or a pair fails: for all rows beside which the marking has a weight
pub returns-in_err-require_terms-clause-err : goal.returns-in_err-require_terms-clause-err
returns-in_err-require_terms-clause-err c =
    let p = err_from_is_err_and c.from_residual-in_err-require_terms.result c.from_residual-in_err-require_terms.ensures.1 in
    rw (p.1, p.2) (IsReducedRefusalBeside.at_terms c.in_ok-positive_beside.ensures.ok (subst (λ bs. IsTermsFault c.args.set bs c.in_err-require_terms.field-0.0)
    c.items-2.ensures.value c.in_err-require_terms.ensures.err))

pub returns-in_err-require_terms-clause-alone : goal.returns-in_err-require_terms-clause-alone
returns-in_err-require_terms-clause-alone c = λ none.
    let p = err_from_is_err_and c.from_residual-in_err-require_terms.result c.from_residual-in_err-require_terms.ensures.1 in
    rw (p.1, p.2) (refused_alone c.args.set c.args.marked.now c.in_err-require_terms.field-0.0 c.items.ensures.variables c.in_ok-forms.ensures.marked
    (subst (λ rows. IsReducedRefusalBeside rows c.args.set c.args.marked.now c.in_err-require_terms.field-0.0) none
    (IsReducedRefusalBeside.at_terms c.in_ok-positive_beside.ensures.ok (subst (λ bs. IsTermsFault c.args.set bs c.in_err-require_terms.field-0.0)
    c.items-2.ensures.value c.in_err-require_terms.ensures.err))))

pub require_terms-requires-clause-variables : goal.require_terms-requires-clause-variables
require_terms-requires-clause-variables c = shared_by c.args.marked.now.variables c.items-2.result.now c.args.marked.now.items c.items-2.ensures.value
    c.items.ensures.variables

pub require_pairs-requires-clause-variables : goal.require_pairs-requires-clause-variables
require_pairs-requires-clause-variables c = shared_by c.in_ok-forms.forms.variables c.items-3.result.now c.in_ok-forms.forms.items c.items-3.ensures.value
    c.items-3.ensures.variables

pub require_pairs-requires-clause-marked : goal.require_pairs-requires-clause-marked
require_pairs-requires-clause-marked c =
    weight_by c.args.marked.now c.items-3.result.now (forms_by c.args.marked.now c.in_ok-forms.forms c.items-3.result.now c.in_ok-forms.ensures.value
    c.items-3.ensures.value)
    (realised_beside c.args.marked.now.variables c.args.rows.now c.args.marked.now.items c.items.ensures.variables c.in_ok-forms.ensures.marked
    c.in_ok-positive_beside.ensures.ok)

pub returns-in_err-require_pairs-clause-err : goal.returns-in_err-require_pairs-clause-err
returns-in_err-require_pairs-clause-err c =
    let p = err_from_is_err_and c.from_residual-in_err-require_pairs.result c.from_residual-in_err-require_pairs.ensures.1 in
    rw (p.1, p.2) (IsReducedRefusalBeside.at_pairs c.in_ok-positive_beside.ensures.ok
    (subst AreReduced c.items-2.ensures.value c.in_ok-require_terms.ensures.ok)
    (subst (λ bs. IsPairsFault c.args.set bs c.in_err-require_pairs.field-0.0)
    (forms_by c.args.marked.now c.in_ok-forms.forms c.items-3.result.now c.in_ok-forms.ensures.value c.items-3.ensures.value)
    c.in_err-require_pairs.ensures.err))

pub returns-in_err-require_pairs-clause-alone : goal.returns-in_err-require_pairs-clause-alone
returns-in_err-require_pairs-clause-alone c = λ none.
    let p = err_from_is_err_and c.from_residual-in_err-require_pairs.result c.from_residual-in_err-require_pairs.ensures.1 in
    rw (p.1, p.2) (refused_alone c.args.set c.args.marked.now c.in_err-require_pairs.field-0.0 c.items.ensures.variables c.in_ok-forms.ensures.marked
    (subst (λ rows. IsReducedRefusalBeside rows c.args.set c.args.marked.now c.in_err-require_pairs.field-0.0) none
    (IsReducedRefusalBeside.at_pairs c.in_ok-positive_beside.ensures.ok (subst AreReduced c.items-2.ensures.value c.in_ok-require_terms.ensures.ok)
    (subst (λ bs. IsPairsFault c.args.set bs c.in_err-require_pairs.field-0.0)
    (forms_by c.args.marked.now c.in_ok-forms.forms c.items-3.result.now c.in_ok-forms.ensures.value c.items-3.ensures.value)
    c.in_err-require_pairs.ensures.err))))

pub returns-clause-basis : goal.returns-clause-basis
returns-clause-basis c =
    taken_reduced c.args.marked.now c.in_ok-forms.forms c.in_ok-arranged.arranged c.items-3.result.now c.items-2.result.now c.in_ok-forms.ensures.value
    (forms_by c.args.marked.now c.in_ok-forms.forms c.items-3.result.now c.in_ok-forms.ensures.value c.items-3.ensures.value)
    c.items-2.ensures.value c.items.ensures.variables c.in_ok-forms.ensures.marked
    (realised_beside c.args.marked.now.variables c.args.rows.now c.args.marked.now.items c.items.ensures.variables c.in_ok-forms.ensures.marked
    c.in_ok-positive_beside.ensures.ok)
    c.in_ok-require_terms.ensures.ok c.in_ok-require_pairs.ensures.ok c.in_ok-arranged.ensures

pub returns-clause-terms : goal.returns-clause-terms
returns-clause-terms c = subst AreReduced c.items-2.ensures.value c.in_ok-require_terms.ensures.ok
