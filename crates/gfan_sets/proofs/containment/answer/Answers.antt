use Rattle.std.proofs.Common.{[], ◌∷◌, List, refl, sym, subst}
use Rattle.std.proofs.lemmas.Result.{err_from_is_err_and}
use Rattle.gf_text.specs.declared.written.Written.{Written}
use Rattle.gf_front.specs.declared.refusal.Refusal.TheVariants as refusals
use Rattle.gf_items.specs.Kinds.{a_marked_set, a_set}
use Rattle.gf_items.specs.Items.{IsTextOf}
use Rattle.gf_items.specs.Sources.{ring_marked_set_and_set}
use Rattle.gf_frame.specs.Commands.{IsRefusedOn}
use Rattle.gfan_common.specs.CheckedSets.{of_check}
use Rattle.gfan_common.proofs.CheckedSetLaws.{of_this_ring}
use Rattle.gfan_sets.proofs.ContainmentLaws.{containment_refused, named_containment, containment_answered}
use Rattle.gfan_common.proofs.RefusedLaws.{of_source, named_text}
use Rattle.gfan_sets.proofs.containment.answer.Goals as goal

pub returns-in_err-read-clause-err : goal.returns-in_err-read-clause-err
returns-in_err-read-clause-err c =
    let p = err_from_is_err_and c.from_residual.result c.from_residual.ensures.1 in
    rw (p.1, p.2) (IsRefusedOn.in_text c.in_err-read.field-0.0 c.in_err-read.ensures.err refl)

pub returns-in_err-read-clause-told : goal.returns-in_err-read-clause-told
returns-in_err-read-clause-told c =
    let p = err_from_is_err_and c.from_residual.result c.from_residual.ensures.1 in
    rw (p.1, p.2) (of_source _ _ (named_text c.in_err-read.field-0.0))

pub returns-in-Err-clause-err : goal.returns-in-Err-clause-err
returns-in-Err-clause-err c =
    let r = c.in_ok-read.read in
    let read = subst (λ (ws : List Written). IsTextOf ring_marked_set_and_set c.args.source.now (r.ring, (r.marked, ws))) (sym c.deref.ensures.value)
    c.in_ok-read.ensures.ok in
    containment_refused c.args.source.now r.ring r.marked c.deref.result.now c.in-Err.error c.of_check.result.refusal read c.in-Err.ensures.err
    c.of_check.ensures.refusal

pub returns-in-Err-clause-told : goal.returns-in-Err-clause-told
returns-in-Err-clause-told c =
    let r = c.in_ok-read.read in
    let read = subst (λ (ws : List Written). IsTextOf ring_marked_set_and_set c.args.source.now (r.ring, (r.marked, ws))) (sym c.deref.ensures.value)
    c.in_ok-read.ensures.ok in
    of_this_ring a_marked_set (a_set ∷ []) c.args.source.now r.ring (r.marked, c.deref.result.now) c.of_check.result (of_check c.in-Err.error)
    read c.of_check.ensures.refusal c.of_check.ensures.ring
    (named_containment c.args.source.now r.ring r.marked c.deref.result.now c.in-Err.error read c.in-Err.ensures.err)

pub returns-in_err-text-clause-told : goal.returns-in_err-text-clause-told
returns-in_err-text-clause-told c =
    let p = err_from_is_err_and c.from_residual-in_err-text.result c.from_residual-in_err-text.ensures.1 in
    rw (p.1, p.2) (of_source _ refusals.Memory (λ lent is. tt))

pub returns-clause-ok : goal.returns-clause-ok
returns-clause-ok c =
    let r = c.in_ok-read.read in
    let read = subst (λ (ws : List Written). IsTextOf ring_marked_set_and_set c.args.source.now (r.ring, (r.marked, ws))) (sym c.deref.ensures.value)
    c.in_ok-read.ensures.ok in
    containment_answered c.args.source.now c.in_ok-text.text.items r.ring r.marked c.deref.result.now c.in-Ok.are read c.in-Ok.ensures.basis c.in-Ok.ensures.ok
    c.in_ok-text.ensures
