use Rattle.std.proofs.Common.{List, subst, ◌∙◌}
use Rattle.std.proofs.lemmas.Result.{err_from_is_err_and}
use Rattle.gf_poly.specs.declared.error.PolyError.TheVariants as errors
use Rattle.gf_poly.specs.Polynomial.{Terms}
use Rattle.gfan_lists.specs.After.{LeaveZero, IsUnlisted}
use Rattle.gfan_lists.proofs.AfterLaws.{unlisted_set, unlisted_generators}
use Rattle.gfan_common.proofs.PerformedLaws.{on_err}
use Rattle.gfan_lists.proofs.after.check_listed.Goals as goal

pub returns-in_err-members-clause-err : goal.returns-in_err-members-clause-err
returns-in_err-members-clause-err c =
    let p = err_from_is_err_and c.from_residual.result c.from_residual.ensures.1 in
    rw p.1 (IsUnlisted.in_basis errors.Memory tt p.2)

pub returns-in_err-check_inside-clause-err : goal.returns-in_err-check_inside-clause-err
returns-in_err-check_inside-clause-err c =
    let p = err_from_is_err_and c.from_residual-in_err-check_inside.result c.from_residual-in_err-check_inside.ensures.1 in
    rw (p.1, p.2) (unlisted_set c.args.generators.now c.deref.result.now c.args.marked.now c.args.root.now c.args.basis.now c.in_err-check_inside.field-0.0
    (c.deref.ensures.value ∙ c.in_ok-members.ensures.value) c.in_err-check_inside.ensures.err)

pub returns-clause-err : goal.returns-clause-err
returns-clause-err c =
    let inside = subst (λ (gs : List Terms). LeaveZero c.args.root.now.items gs)
    (c.deref.ensures.value ∙ c.in_ok-members.ensures.value) c.in_ok-check_inside.ensures.ok in
    on_err c.check_inside-2.result _ _ (λ r h. unlisted_generators c.args.generators.now c.args.marked.now c.args.root.now c.args.basis.now r inside h)
    c.check_inside-2.ensures.err
