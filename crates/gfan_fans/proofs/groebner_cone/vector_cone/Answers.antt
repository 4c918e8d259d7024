use Rattle.std.proofs.Common.{refl, sym, subst, List, ℤ, ◌∙◌}
use Rattle.std.proofs.lemmas.Result.{err_from_is_err_and, IfOk-weaker, IfErr-weaker}
use Rattle.gf_gordan.specs.Alternative.{AreRows}
use Rattle.gf_items.specs.Checks.{FirstFails}
use Rattle.gf_frame.specs.Commands.{IsUnanswered}
use Rattle.gfan_common.specs.ToolForms.{for_each}
use Rattle.gfan_fans.proofs.GroebnerConeLaws.{space_unanswered, inequality_unanswered, equation_unanswered, vectors_unanswered, vectors_answered}
use Rattle.gfan_fans.proofs.GroebnerConeLaws.{restricted_width}
use Rattle.gfan_fans.proofs.groebner_cone.vector_cone.Goals as goal

pub returns-in_err-check_space-clause-err : goal.returns-in_err-check_space-clause-err
returns-in_err-check_space-clause-err c =
    let p = err_from_is_err_and c.from_residual.result c.from_residual.ensures.1 in
    rw (p.1, p.2) (space_unanswered c.args.options c.args.n c.args.inequalities.items c.args.equations.now c.in_err-check_space.field-0.0
    c.in_err-check_space.ensures.err)

pub returns-in_err-check_each-clause-err : goal.returns-in_err-check_each-clause-err
returns-in_err-check_each-clause-err c =
    let p = err_from_is_err_and c.from_residual-in_err-check_each.result c.from_residual-in_err-check_each.ensures.1 in
    let fails = subst (λ (hs : List (List ℤ)). FirstFails (for_each c.args.n hs) c.in_err-check_each.field-0.0)
    c.as_slice.ensures.value c.in_err-check_each.ensures.err in
    rw (p.1, p.2) (inequality_unanswered c.args.options c.args.n c.args.inequalities.items c.args.equations.now c.in_err-check_each.field-0.0
    c.in_ok-check_space.ensures.ok fails)

pub returns-in_err-check_each-2-clause-err : goal.returns-in_err-check_each-2-clause-err
returns-in_err-check_each-2-clause-err c =
    let p = err_from_is_err_and c.from_residual-in_err-check_each-2.result c.from_residual-in_err-check_each-2.ensures.1 in
    let wide = subst (AreRows c.args.n) c.as_slice.ensures.value c.in_ok-check_each.ensures.ok in
    rw (p.1, p.2) (equation_unanswered c.args.options c.args.n c.args.inequalities.items c.args.equations.now c.in_err-check_each-2.field-0.0
    c.in_ok-check_space.ensures.ok wide c.in_err-check_each-2.ensures.err)

pub returns-in_err-rows-clause-err : goal.returns-in_err-rows-clause-err
returns-in_err-rows-clause-err c =
    let p = err_from_is_err_and c.from_residual-in_err-rows.result c.from_residual-in_err-rows.ensures.1 in
    rw (p.1, p.2) (IsUnanswered.no_memory refl)

pub told-requires-clause-inequalities : goal.told-requires-clause-inequalities
told-requires-clause-inequalities c =
    let wide = subst (AreRows c.args.n) c.as_slice.ensures.value c.in_ok-check_each.ensures.ok in
    subst (AreRows c.args.n) (sym c.as_slice-2.ensures.value)
    (restricted_width c.args.options.restricted c.args.n c.args.inequalities.items c.in_ok-rows.rows.items c.in_ok-rows.ensures wide)

pub returns-clause-ok : goal.returns-clause-ok
returns-clause-ok c =
    let wide = subst (AreRows c.args.n) c.as_slice.ensures.value c.in_ok-check_each.ensures.ok in
    IfOk-weaker c.told.result _ _ (λ text k. vectors_answered c.args.options c.args.n c.args.inequalities.items c.as_slice-2.result.now c.args.equations.now
    text.items c.in_ok-check_space.ensures.ok wide c.in_ok-check_each-2.ensures.ok
    (c.as_slice-2.ensures.value ∙ c.in_ok-rows.ensures) k) c.told.ensures.ok

pub returns-clause-err : goal.returns-clause-err
returns-clause-err c =
    let wide = subst (AreRows c.args.n) c.as_slice.ensures.value c.in_ok-check_each.ensures.ok in
    IfErr-weaker c.told.result _ _ (λ r k. vectors_unanswered c.args.options c.args.n c.args.inequalities.items c.as_slice-2.result.now c.args.equations.now r
    c.in_ok-check_space.ensures.ok wide c.in_ok-check_each-2.ensures.ok
    (c.as_slice-2.ensures.value ∙ c.in_ok-rows.ensures) k) c.told.ensures.err
