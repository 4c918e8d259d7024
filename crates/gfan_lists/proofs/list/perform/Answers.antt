use Rattle.std.proofs.Common.{List, length, ◌∙◌, subst}
use Rattle.std.proofs.lemmas.Result.{err_from_is_err_and}
use Rattle.std.specs.Prelude.{ℕ, is_some}
use Rattle.gfan_lists.specs.After.{IsRegionCut}
use Rattle.gfan_lists.specs.ListCommand.{AreSameNames}
use Rattle.gfan_lists.specs.Asked.{generators_asked, behind_by}
use Rattle.gfan_common.proofs.PerformedLaws.{of_unnamed, on_err, ok_with, err_with}
use Rattle.gfan_lists.proofs.AskedLaws.{going_as, unbegun_as, unstarted_as, told_as, done_as, stopped_as}
use Rattle.gfan_lists.proofs.ListWritingLaws.{cut_same, file_refused, found_refused, input_refused, unbegun_told}
use Rattle.gfan_lists.proofs.list.perform.Goals as goal

pub returns-in_err-rows-clause-stopped : goal.returns-in_err-rows-clause-stopped
returns-in_err-rows-clause-stopped g c =
    let p = err_from_is_err_and c.from_residual.result c.from_residual.ensures.1 in
    let j = c.args.job.now in
    rw (p.1, p.2) (λ sources. file_refused j.from_basis j.input.now sources j.options (g.K.Sink.held c.args.output.now) (g.K.Sink.faults c.args.output.now)
    j.region j.after c.in_err-rows.field-0.0.refusal c.in_err-rows.ensures.err)

pub returns-in_err-rows-clause-told : goal.returns-in_err-rows-clause-told
returns-in_err-rows-clause-told g c =
    let p = err_from_is_err_and c.from_residual.result c.from_residual.ensures.1 in
    rw (p.1, p.2) (of_unnamed c.args.job.now.input.now c.in_err-rows.field-0.0 c.in_err-rows.ensures.told)

pub returns-in_err-found-clause-stopped : goal.returns-in_err-found-clause-stopped
returns-in_err-found-clause-stopped g c =
    let p = err_from_is_err_and c.from_residual-in_err-found.result c.from_residual-in_err-found.ensures.1 in
    let j = c.args.job.now in
    rw (p.1, p.2) (λ sources. found_refused j.from_basis j.input.now sources j.options (g.K.Sink.held c.args.output.now) (g.K.Sink.faults c.args.output.now)
    j.region j.after c.in_ok-rows.rows.items c.in_err-found.field-0.0.refusal c.in_ok-rows.ensures.ok c.in_err-found.ensures.err)

pub returns-in_err-found-clause-told : goal.returns-in_err-found-clause-told
returns-in_err-found-clause-told g c =
    let p = err_from_is_err_and c.from_residual-in_err-found.result c.from_residual-in_err-found.ensures.1 in
    rw (p.1, p.2) (of_unnamed c.args.job.now.input.now c.in_err-found.field-0.0 c.in_err-found.ensures.told)

pub returns-in_err-asked-clause-stopped : goal.returns-in_err-asked-clause-stopped
returns-in_err-asked-clause-stopped g c =
    let p = err_from_is_err_and c.from_residual-in_err-asked.result c.from_residual-in_err-asked.ensures.1 in
    let j = c.args.job.now in
    let e = c.in_err-asked.ensures.err in
    rw (p.1, p.2) (λ sources. input_refused j.from_basis j.input.now sources j.options (g.K.Sink.held c.args.output.now) (g.K.Sink.faults c.args.output.now)
    j.region j.after c.in_ok-found.found c.in_ok-rows.rows.items e.0 c.in_err-asked.field-0.0.refusal c.in_ok-rows.ensures.ok c.in_ok-found.ensures.ok e.1 e.2)

pub returns-in_err-asked-clause-told : goal.returns-in_err-asked-clause-told
returns-in_err-asked-clause-told g c =
    let p = err_from_is_err_and c.from_residual-in_err-asked.result c.from_residual-in_err-asked.ensures.1 in
    rw (p.1, p.2) (of_unnamed c.args.job.now.input.now c.in_err-asked.field-0.0 c.in_err-asked.ensures.told)

pub returns-in_err-region-clause-stopped : goal.returns-in_err-region-clause-stopped
returns-in_err-region-clause-stopped g c =
    let p = err_from_is_err_and c.from_residual-in_err-region.result c.from_residual-in_err-region.ensures.1 in
    let j = c.args.job.now in
    rw (p.1, p.2) (λ sources. unbegun_as j c.in_ok-asked.asked c.in_ok-found.found c.in_ok-rows.rows.items c.in_ok-rows.ensures.ok c.in_ok-found.ensures.ok
    c.in_ok-asked.ensures.way
    c.in_ok-asked.ensures.ok _ _ _ (c.is_some-in_region.ensures ∙ cut_same j.region) c.ring.ensures c.deref.ensures.value sources
    (g.K.Sink.held c.args.output.now) (g.K.Sink.faults c.args.output.now) c.in_err-region.field-0.0 c.in_err-region.ensures.err)

pub returns-in_err-region-clause-told : goal.returns-in_err-region-clause-told
returns-in_err-region-clause-told g c =
    let p = err_from_is_err_and c.from_residual-in_err-region.result c.from_residual-in_err-region.ensures.1 in
    let found = c.in_ok-found.found in
    rw (p.1, p.2) (unbegun_told c.args.job.now.input.now c.is_some-in_region.result (is_some found) (length c.ring.result.now) c.deref.result.now
    (behind_by found)
    c.ring.result.now c.in_err-region.field-0.0 c.in_err-region.ensures.err)

pub start-requires-clause-names : goal.start-requires-clause-names
start-requires-clause-names g c κs within =
    let found = c.in_ok-found.found in
    subst (λ (names : List (List ℕ)). AreSameNames (is_some found) (behind_by found) names) c.ring.ensures c.in_ok-region.ensures.names

pub start-requires-clause-region : goal.start-requires-clause-region
start-requires-clause-region g c κs within = (
  c.deref.result.now,
  subst (λ (names : List (List ℕ)). IsRegionCut c.is_some-in_region.result (length names) c.deref.result.now c.in_ok-region.region) c.ring.ensures
      c.in_ok-region.ensures.region,
)

pub returns-in-Err-clause-stopped : goal.returns-in-Err-clause-stopped
returns-in-Err-clause-stopped g c =
    let j = c.args.job.now in
    λ sources. unstarted_as j c.in_ok-asked.asked c.in_ok-found.found c.in_ok-rows.rows.items c.in_ok-rows.ensures.ok c.in_ok-found.ensures.ok
    c.in_ok-asked.ensures.way
    c.in_ok-asked.ensures.ok _ _ _ (c.is_some-in_region.ensures ∙ cut_same j.region) c.ring.ensures c.deref.ensures.value
    c.in_ok-region.region c.in_ok-region.ensures.region c.in_ok-region.ensures.names sources (g.K.Sink.held c.args.output.now)
    (g.K.Sink.faults c.args.output.now) c.in-Err.refusal c.in-Err.ensures.err

pub returns-in-Err-clause-told : goal.returns-in-Err-clause-told
returns-in-Err-clause-told g c =
    let j = c.args.job.now in
    told_as j c.in_ok-asked.asked c.in_ok-found.found c.in_ok-rows.rows.items c.in_ok-rows.ensures.ok c.in_ok-found.ensures.ok c.in_ok-asked.ensures.way
    c.in_ok-asked.ensures.ok _ _ _ (c.is_some-in_region.ensures ∙ cut_same j.region) c.ring.ensures c.deref.ensures.value
    c.in_ok-region.region c.in_ok-region.ensures.region c.in_ok-region.ensures.names c.in-Err.refusal c.into_ring.result c.into_ring.ensures
    c.in-Err.ensures.err

pub write_waves-requires-clause-row : goal.write_waves-requires-clause-row
write_waves-requires-clause-row g c κs within =
    let w = c.in-Ok.ensures.ok in
    (w.0, generators_asked c.in_ok-asked.asked, going_as c.in_ok-asked.asked _ w.0 _ _ _ c.ring-2.ensures w.2)

pub returns-clause-done : goal.returns-clause-done
returns-clause-done g c =
    let j = c.args.job.now in
    let asked = c.in_ok-asked.asked in
    let w = c.in-Ok.ensures.ok in
    ok_with c.write_waves.result _ _ _ _ (λ h calm sources. done_as j c.in_ok-asked.asked c.in_ok-found.found c.in_ok-rows.rows.items c.in_ok-rows.ensures.ok
    c.in_ok-found.ensures.ok c.in_ok-asked.ensures.way
    c.in_ok-asked.ensures.ok _ _ _ (c.is_some-in_region.ensures ∙ cut_same j.region) c.ring.ensures c.deref.ensures.value
    c.in_ok-region.region c.in_ok-region.ensures.region c.in_ok-region.ensures.names c.in-Ok.ensures.basis w.0 w.1 _ c.ring-2.ensures sources
    (g.K.Sink.held c.args.output.now) (g.K.Sink.held c.write_waves.new.output) (g.K.Sink.faults c.args.output.now)
    (g.K.Sink.faults c.write_waves.new.output) (h w.0 (generators_asked asked) (going_as asked _ w.0 _ _ _ c.ring-2.ensures w.2)) calm)
    c.write_waves.ensures.done c.write_waves.ensures.calm

pub returns-clause-stopped : goal.returns-clause-stopped
returns-clause-stopped g c =
    let j = c.args.job.now in
    let asked = c.in_ok-asked.asked in
    let w = c.in-Ok.ensures.ok in
    err_with c.write_waves.result _ _ _ _ (λ e h calm sources. stopped_as j c.in_ok-asked.asked c.in_ok-found.found c.in_ok-rows.rows.items
    c.in_ok-rows.ensures.ok c.in_ok-found.ensures.ok c.in_ok-asked.ensures.way
    c.in_ok-asked.ensures.ok _ _ _ (c.is_some-in_region.ensures ∙ cut_same j.region) c.ring.ensures c.deref.ensures.value
    c.in_ok-region.region c.in_ok-region.ensures.region c.in_ok-region.ensures.names c.in-Ok.ensures.basis w.0 w.1 _ c.ring-2.ensures sources
    (g.K.Sink.held c.args.output.now) (g.K.Sink.held c.write_waves.new.output) (g.K.Sink.faults c.args.output.now)
    (g.K.Sink.faults c.write_waves.new.output) e.refusal (h w.0 (generators_asked asked) (going_as asked _ w.0 _ _ _ c.ring-2.ensures w.2)) calm)
    c.write_waves.ensures.stopped c.write_waves.ensures.calm

pub returns-clause-told : goal.returns-clause-told
returns-clause-told g c = on_err c.write_waves.result _ _ (λ e u. of_unnamed c.args.job.now.input.now e u) c.write_waves.ensures.told
