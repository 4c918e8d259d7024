use Rattle.std.proofs.Common.{List, None, length, refl, sym, subst}
use Rattle.std.proofs.lemmas.Result.{err_from_is_err_and}
use Rattle.gf_text.specs.declared.written.Written.{Written}
use Rattle.gf_text.specs.Sets.{AreIn}
use Rattle.gf_frame.specs.Commands.{IsAnswerFor, IsUnanswered, IsRefusedOn}
use Rattle.gfan_sets.specs.Saturation.{saturation_command}
use Rattle.gfan_common.proofs.PerformedLaws.{without_vector}
use Rattle.gfan_common.proofs.RefusedLaws.{of_source, named_text}
use Rattle.gfan_sets.proofs.saturation.answer.Goals as goal

pub returns-in_err-ring-clause-err : goal.returns-in_err-ring-clause-err
returns-in_err-ring-clause-err c =
    let p = err_from_is_err_and c.from_residual.result c.from_residual.ensures.1 in
    rw (p.1, p.2) (IsRefusedOn.in_text c.in_err-ring.field-0.0 c.in_err-ring.ensures.err refl)

pub returns-in_err-ring-clause-told : goal.returns-in_err-ring-clause-told
returns-in_err-ring-clause-told c =
    let p = err_from_is_err_and c.from_residual.result c.from_residual.ensures.1 in
    rw (p.1, p.2) (of_source _ _ (named_text c.in_err-ring.field-0.0))

pub text_of-requires : goal.text_of-requires
text_of-requires c =
    let r = c.in_ok-ring.field-0 in
    subst (λ (ws : List Written). AreIn (length r.ring) ws) (sym c.deref.ensures.value) c.in_ok-ring.ensures.variables

pub returns-in_err-text-clause-err : goal.returns-in_err-text-clause-err
returns-in_err-text-clause-err c =
    let p = err_from_is_err_and c.from_residual-in_err-text.result c.from_residual-in_err-text.ensures.1 in
    let r = c.in_ok-ring.field-0 in
    rw (p.1, p.2) (IsRefusedOn.behind_text (r.ring, (r.set.items, None)) (without_vector c.args.source.now r.ring r.set.items r.vector c.in_ok-ring.ensures.ok)
    (subst (λ (ws : List Written). IsUnanswered (saturation_command c.args.options) (r.ring, (ws, None)) c.in_err-text.field-0.0)
    c.deref.ensures.value c.in_err-text.ensures.err))

pub returns-in_err-text-clause-told : goal.returns-in_err-text-clause-told
returns-in_err-text-clause-told c =
    let p = err_from_is_err_and c.from_residual-in_err-text.result c.from_residual-in_err-text.ensures.1 in
    rw (p.1, p.2) (of_source _ _ c.in_err-text.ensures.told)

pub returns-clause-ok : goal.returns-clause-ok
returns-clause-ok c =
    let r = c.in_ok-ring.field-0 in record {
      value = (r.ring, (r.set.items, None));
      read = without_vector c.args.source.now r.ring r.set.items r.vector c.in_ok-ring.ensures.ok;
      answer = subst (λ (ws : List Written). IsAnswerFor (saturation_command c.args.options) (r.ring, (ws, None)) c.in_ok-text.text.items)
          c.deref.ensures.value c.in_ok-text.ensures.ok;
    }
