use Rattle.std.proofs.Common.{List, refl, subst}
use Rattle.std.proofs.lemmas.Result.{err_from_is_err_and}
use Rattle.gf_text.specs.declared.written.Written.{Written}
use Rattle.gf_frame.specs.Commands.{IsUnanswered, IsRefusedOn}
use Rattle.gfan_sets.specs.InitialForms.{initial_forms_command}
use Rattle.gfan_common.proofs.RefusedLaws.{of_source, named_text}
use Rattle.gfan_sets.proofs.initial_forms.answer.Goals as goal

pub returns-in_err-ring-clause-err : goal.returns-in_err-ring-clause-err
returns-in_err-ring-clause-err c =
    let p = err_from_is_err_and c.from_residual.result c.from_residual.ensures.1 in
    rw (p.1, p.2) (IsRefusedOn.in_text c.in_err-ring.field-0.0 c.in_err-ring.ensures.err refl)

pub returns-in_err-ring-clause-told : goal.returns-in_err-ring-clause-told
returns-in_err-ring-clause-told c =
    let p = err_from_is_err_and c.from_residual.result c.from_residual.ensures.1 in
    rw (p.1, p.2) (of_source _ _ (named_text c.in_err-ring.field-0.0))

pub returns-in_err-text-clause-err : goal.returns-in_err-text-clause-err
returns-in_err-text-clause-err c =
    let p = err_from_is_err_and c.from_residual-in_err-text.result c.from_residual-in_err-text.ensures.1 in
    rw (p.1, p.2) (IsRefusedOn.behind_text (c.in_ok-ring.field-0.ring, (c.in_ok-ring.field-0.set.items, c.in_ok-ring.field-0.vector)) c.in_ok-ring.ensures.ok
    (subst (λ (ws : List Written). IsUnanswered initial_forms_command (c.in_ok-ring.field-0.ring, (ws, c.in_ok-ring.field-0.vector)) c.in_err-text.field-0.0)
    c.deref.ensures.value c.in_err-text.ensures.err))

pub returns-in_err-text-clause-told : goal.returns-in_err-text-clause-told
returns-in_err-text-clause-told c =
    let p = err_from_is_err_and c.from_residual-in_err-text.result c.from_residual-in_err-text.ensures.1 in
    rw (p.1, p.2) (of_source _ _ c.in_err-text.ensures.told)
