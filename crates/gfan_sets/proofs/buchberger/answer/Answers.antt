use Rattle.std.proofs.Common.{List, length, refl, subst}
use Rattle.std.proofs.lemmas.Result.{err_from_is_err_and}
use Rattle.gf_text.specs.declared.written.Written.{Written}
use Rattle.gf_frame.specs.Commands.{IsUnanswered, IsRefusedOn}
use Rattle.gfan_common.specs.Forms.{generators_of}
use Rattle.gfan_sets.specs.Buchberger.{buchberger_command}
use Rattle.gfan_common.proofs.WrittenSetLaws.{in_ring}
use Rattle.gfan_sets.proofs.BuchbergerLaws.{named_job, of_ring}
use Rattle.gfan_common.proofs.RefusedLaws.{of_source, named_text}
use Rattle.gfan_sets.proofs.buchberger.answer.Goals as goal

pub returns-in_err-ring-clause-err : goal.returns-in_err-ring-clause-err
returns-in_err-ring-clause-err c =
    let p = err_from_is_err_and c.from_residual.result c.from_residual.ensures.1 in
    rw (p.1, p.2) (IsRefusedOn.in_text c.in_err-ring.field-0.0 c.in_err-ring.ensures.err refl)

pub returns-in_err-ring-clause-told : goal.returns-in_err-ring-clause-told
returns-in_err-ring-clause-told c =
    let p = err_from_is_err_and c.from_residual.result c.from_residual.ensures.1 in
    rw (p.1, p.2) (of_source _ _ (named_text c.in_err-ring.field-0.0))

pub returns-in-Err-clause-err : goal.returns-in-Err-clause-err
returns-in-Err-clause-err c =
    IsRefusedOn.behind_text (c.in_ok-ring.field-0.ring, (c.in_ok-ring.field-0.set.items, c.in_ok-ring.field-0.vector)) c.in_ok-ring.ensures.ok
    (subst (λ (ws : List Written). IsUnanswered (buchberger_command c.args.options) (
      c.in_ok-ring.field-0.ring,
      (ws, c.in_ok-ring.field-0.vector),
    ) c.in-Err.refusal) c.deref.ensures.value c.in-Err.ensures.err)

pub returns-in-Err-clause-told : goal.returns-in-Err-clause-told
returns-in-Err-clause-told c =
    let read = c.in_ok-ring.field-0 in
    let unanswered = subst (λ (ws : List Written). IsUnanswered (buchberger_command c.args.options) (read.ring, (ws, read.vector)) c.in-Err.refusal)
    c.deref.ensures.value c.in-Err.ensures.err in
    of_ring c.args.options c.args.source.now read.ring read.set.items read.vector c.in_ok-ring.ensures.ok c.in-Err.refusal
    (named_job c.args.options read.ring read.set.items read.vector c.in-Err.refusal (in_ring (length read.ring) read.set.items (generators_of read.set.items)
    c.in_ok-ring.ensures.variables refl) unanswered)
