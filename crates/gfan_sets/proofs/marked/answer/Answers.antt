use Rattle.std.proofs.Common.{[], refl}
use Rattle.std.proofs.lemmas.Result.{err_from_is_err_and}
use Rattle.gf_front.specs.declared.refusal.Refusal.TheVariants as refusals
use Rattle.gf_items.specs.Kinds.{a_marked_set}
use Rattle.gf_frame.specs.Commands.{IsRefusedOn}
use Rattle.gfan_common.specs.CheckedSets.{of_check}
use Rattle.gfan_common.proofs.CheckedSetLaws.{of_this_ring, named_test}
use Rattle.gfan_sets.proofs.MarkedLaws.{check_refused, marked_answered}
use Rattle.gfan_common.proofs.RefusedLaws.{of_source, named_text}
use Rattle.gfan_sets.proofs.marked.answer.Goals as goal

pub returns-in_err-read-clause-err : goal.returns-in_err-read-clause-err
returns-in_err-read-clause-err c =
    let p = err_from_is_err_and c.from_residual.result c.from_residual.ensures.1 in
    rw (p.1, p.2) (IsRefusedOn.in_text c.in_err-read.field-0.0 c.in_err-read.ensures.err refl)

pub returns-in_err-read-clause-told : goal.returns-in_err-read-clause-told
returns-in_err-read-clause-told c =
    let p = err_from_is_err_and c.from_residual.result c.from_residual.ensures.1 in
    rw (p.1, p.2) (of_source _ _ (named_text c.in_err-read.field-0.0))

pub returns-in-Err-clause-err : goal.returns-in-Err-clause-err
returns-in-Err-clause-err c =
    check_refused c.args.source.now c.in_ok-read.read.ring c.in_ok-read.read.set c.in-Err.error c.of_check.result.refusal c.in_ok-read.ensures.ok
    c.in-Err.ensures.err c.of_check.ensures.refusal

pub returns-in-Err-clause-told : goal.returns-in-Err-clause-told
returns-in-Err-clause-told c =
    of_this_ring a_marked_set [] c.args.source.now c.in_ok-read.read.ring c.in_ok-read.read.set c.of_check.result (of_check c.in-Err.error)
    c.in_ok-read.ensures.ok c.of_check.ensures.refusal c.of_check.ensures.ring
    (named_test c.in_ok-read.read.ring c.in_ok-read.read.set c.in-Err.error c.in-Err.ensures.err)

pub returns-in_err-text-clause-told : goal.returns-in_err-text-clause-told
returns-in_err-text-clause-told c =
    let p = err_from_is_err_and c.from_residual-in_err-text.result c.from_residual-in_err-text.ensures.1 in
    rw (p.1, p.2) (of_source _ refusals.Memory (λ lent is. tt))

pub returns-clause-ok : goal.returns-clause-ok
returns-clause-ok c =
    marked_answered c.args.source.now c.in_ok-text.text.items c.in_ok-read.read.ring c.in_ok-read.read.set c.in-Ok.is_basis c.in_ok-read.ensures.ok
    c.in-Ok.ensures.ok c.in_ok-text.ensures
