use Rattle.std.proofs.Common.{[], ℕ, All, ◌≡◌, refl, sym, subst}
use Rattle.std.proofs.lemmas.Result.{err_from_is_err_and}
use Rattle.gf_poly.specs.Marking.{MarkedPolynomials}
use Rattle.gf_items.specs.Kinds.{marked_set_list}
use Rattle.gf_frame.specs.Commands.{IsRefusedOn}
use Rattle.gfan_common.proofs.RefusedLaws.{of_source, named_text}
use Rattle.gfan_common.proofs.CheckedSetLaws.{of_this_ring}
use Rattle.gfan_fans.proofs.ToPolyhedralFanLaws.{fan_answered, no_fan_refused, no_fan_named}
use Rattle.gfan_fans.proofs.to_polyhedral_fan.answer.Goals as goal

pub returns-in_err-ring-clause-err : goal.returns-in_err-ring-clause-err
returns-in_err-ring-clause-err c =
    let p = err_from_is_err_and c.from_residual.result c.from_residual.ensures.1 in
    rw (p.1, p.2) (IsRefusedOn.in_text c.in_err-ring.field-0.0 c.in_err-ring.ensures.err refl)

pub returns-in_err-ring-clause-told : goal.returns-in_err-ring-clause-told
returns-in_err-ring-clause-told c =
    let p = err_from_is_err_and c.from_residual.result c.from_residual.ensures.1 in
    rw (p.1, p.2) (of_source _ _ (named_text c.in_err-ring.field-0.0))

pub fan_of_sets-requires-clause-variables : goal.fan_of_sets-requires-clause-variables
fan_of_sets-requires-clause-variables c =
    subst (λ (k : ℕ). All (λ (s : MarkedPolynomials). s.variables ≡ k) c.in_ok-ring.field-0.sets.items) (sym c.len.ensures.value)
    c.in_ok-ring.ensures.variables

pub returns-in-Ok-clause-ok : goal.returns-in-Ok-clause-ok
returns-in-Ok-clause-ok c =
    let read = c.in_ok-ring.field-0 in
    fan_answered c.args.options c.args.source.now c.in-Ok.text.items read.ring read.sets.items read.sets.items c.len.result c.in_ok-ring.ensures.ok
    c.len.ensures.value refl c.in-Ok.ensures.ok

pub returns-in-Err-clause-err : goal.returns-in-Err-clause-err
returns-in-Err-clause-err c =
    let read = c.in_ok-ring.field-0 in
    no_fan_refused c.args.options c.args.source.now c.in-Err.refusal read.ring read.sets.items read.sets.items c.len.result c.in_ok-ring.ensures.ok
    c.len.ensures.value refl c.in-Err.ensures.err

pub returns-in-Err-clause-told : goal.returns-in-Err-clause-told
returns-in-Err-clause-told c =
    let read = c.in_ok-ring.field-0 in
    of_this_ring marked_set_list [] c.args.source.now read.ring read.sets.items _ c.in-Err.refusal c.in_ok-ring.ensures.ok refl refl
    (no_fan_named c.args.options.restrict c.args.source.now c.in-Err.refusal read.ring read.sets.items read.sets.items c.len.result c.in_ok-ring.ensures.ok
    c.len.ensures.value refl c.in-Err.ensures.err)
