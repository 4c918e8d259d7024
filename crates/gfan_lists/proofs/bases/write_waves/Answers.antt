use Rattle.std.proofs.Common.{true, refl, sym, ap, subst, ◌∙◌}
use Rattle.std.proofs.lemmas.Result.{err_from_is_err_and}
use Rattle.std.specs.Io.KnownBytes.{Appends}
use Rattle.gf_reverse_theory.specs.Upward.{Fan, IsNodeIn}
use Rattle.gfan_lists.specs.Ahead.{AreAhead, IsNextTaken}
use Rattle.gfan_lists.specs.BasesWriting.{IsBasisWritten, IsBasisUnwritten, IsUnwritten, IsListStoppedBehind}
use Rattle.gfan_lists.proofs.AheadLaws.{kept_here, way_kept, ahead_ideal}
use Rattle.gfan_lists.proofs.BasesLaws.{starts, from_row, step_variables, goes_on, ends, stopped_tree, stopped_limit, stopped_piece, stopped_end}
use Rattle.gfan_lists.proofs.BasesLaws.{stopped_unended, unnamed_piece, piece_calm}
use Rattle.gfan_common.proofs.CauseLaws.{unnamed_tree}
use Rattle.gfan_lists.proofs.bases.write_waves.Goals as goal

pub list-init : goal.list-init
list-init g c = record {
  under_way = (
    c.args.waves,
    subst (λ xs. AreAhead c.args.options.certified c.args.ring.now c.args.region.now true xs c.args.waves c.args.waves) (sym c.new-ahead.ensures.items)
        (kept_here c.args.waves),
    λ before fs s. starts before c.args.options c.args.ring.now c.args.region.now fs c.args.waves c.of-room.result (g.K.Sink.held c.args.output.now)
        s c.of-room.ensures,
  );
  calm = refl;
}

pub next_taken-requires-clause-variables : goal.next_taken-requires-clause-variables
next_taken-requires-clause-variables g c κs within =
    let r = c.requires.row in
    let ideal = ahead_ideal c.args.options.certified c.args.ring.now c.args.region.now c.list.is_first c.list.ahead.items c.list.invariant.under_way.0
    c.list.waves c.list.invariant.under_way.1 in
    λ v node. (from_row r.0 c.args.options c.args.ring.now c.args.region.now r.1 c.list.invariant.under_way.0 c.list.room c.list.is_first
    (g.K.Sink.held c.args.output.now) (g.K.Sink.held c.list.output) (c.list.invariant.under_way.2 r.0 r.1 r.2) v
    (subst (λ (F : Fan). IsNodeIn F v) ideal node)).variables

pub next_taken-requires-clause-region : goal.next_taken-requires-clause-region
next_taken-requires-clause-region g c κs within = c.requires.row.2.basis.fan.region.root.width

pub returns-in_err-end-clause-stopped : goal.returns-in_err-end-clause-stopped
returns-in_err-end-clause-stopped g c =
    let next = subst (λ o. IsNextTaken c.args.options.certified c.args.ring.now c.args.region.now c.list.is_first c.list.invariant.under_way.0 c.list.waves o
    c.next_taken.new.ahead.items c.next_taken.new.waves) c.in_default.is
    (c.in_ok-taken.ensures.ok c.list.invariant.under_way.0 c.list.invariant.under_way.1) in
    let p = err_from_is_err_and c.from_residual-in_err-end.result c.from_residual-in_err-end.ensures.1 in
    rw p.1 (λ before fs s. subst (λ k. IsListStoppedBehind before c.args.options c.args.ring.now c.args.region.now fs (g.K.Sink.held c.args.output.now)
    (g.K.Sink.held c.list.output) k (g.K.Sink.faults c.list.output) p.0.refusal) c.list.invariant.calm
    (stopped_unended before c.args.options c.args.ring.now c.args.region.now fs c.list.waves c.list.room c.list.is_first (g.K.Sink.held c.args.output.now)
    (g.K.Sink.held c.list.output) (way_kept before c.args.options c.args.ring.now c.args.region.now fs c.list.room c.list.is_first
    (g.K.Sink.held c.args.output.now) (g.K.Sink.held c.list.output) c.list.invariant.under_way.0 c.list.waves next.0
    (c.list.invariant.under_way.2 before fs s)) c.next_taken.new.waves next.1 (g.K.Sink.faults c.list.output) (g.K.Sink.faults c.list.output) p.0.refusal
    (ap (λ r. r.refusal) p.2)))

pub returns-in_err-taken-clause-stopped : goal.returns-in_err-taken-clause-stopped
returns-in_err-taken-clause-stopped g c =
    let p = err_from_is_err_and c.from_residual.result c.from_residual.ensures.1 in
    let kept = c.in_err-taken.ensures.none c.list.invariant.under_way.0 c.list.invariant.under_way.1 in
    rw (p.1, p.2) (λ before fs s. stopped_tree before c.args.options c.args.ring.now c.args.region.now fs c.list.waves c.list.room c.list.is_first
    (g.K.Sink.held c.args.output.now) (g.K.Sink.held c.list.output) (way_kept before c.args.options c.args.ring.now c.args.region.now fs c.list.room
    c.list.is_first (g.K.Sink.held c.args.output.now) (g.K.Sink.held c.list.output) c.list.invariant.under_way.0 c.list.waves kept
    (c.list.invariant.under_way.2 before fs s))
    (g.K.Sink.faults c.args.output.now) (g.K.Sink.faults c.list.output) c.in_err-taken.field-0.0 c.in_err-taken.ensures.early)

pub returns-in_err-taken-clause-told : goal.returns-in_err-taken-clause-told
returns-in_err-taken-clause-told g c =
    let p = err_from_is_err_and c.from_residual.result c.from_residual.ensures.1 in
    rw (p.1, p.2) (unnamed_tree c.in_err-taken.field-0.0)

pub write_taken-requires-clause-variables : goal.write_taken-requires-clause-variables
write_taken-requires-clause-variables g c =
    let next = subst (λ o. IsNextTaken c.args.options.certified c.args.ring.now c.args.region.now c.list.is_first c.list.invariant.under_way.0 c.list.waves o
    c.next_taken.new.ahead.items c.next_taken.new.waves) c.in-Some.is
    (c.in_ok-taken.ensures.ok c.list.invariant.under_way.0 c.list.invariant.under_way.1) in
    step_variables c.requires.row.0 c.args.options c.args.ring.now c.args.region.now c.requires.row.1 c.list.invariant.under_way.0 c.list.room c.list.is_first
    (g.K.Sink.held c.args.output.now) (g.K.Sink.held c.list.output) (c.list.invariant.under_way.2 c.requires.row.0 c.requires.row.1 c.requires.row.2)
    next.0 c.in-Some.taken.basis next.1

pub write_taken-requires-clause-region : goal.write_taken-requires-clause-region
write_taken-requires-clause-region g c =
    let next = subst (λ o. IsNextTaken c.args.options.certified c.args.ring.now c.args.region.now c.list.is_first c.list.invariant.under_way.0 c.list.waves o
    c.next_taken.new.ahead.items c.next_taken.new.waves) c.in-Some.is
    (c.in_ok-taken.ensures.ok c.list.invariant.under_way.0 c.list.invariant.under_way.1) in
    c.requires.row.2.basis.fan.region.root.width ∙ sym (step_variables c.requires.row.0 c.args.options c.args.ring.now c.args.region.now c.requires.row.1
    c.list.invariant.under_way.0 c.list.room c.list.is_first (g.K.Sink.held c.args.output.now) (g.K.Sink.held c.list.output)
    (c.list.invariant.under_way.2 c.requires.row.0 c.requires.row.1 c.requires.row.2) next.0 c.in-Some.taken.basis next.1)

pub write_taken-requires-clause-worked : goal.write_taken-requires-clause-worked
write_taken-requires-clause-worked g c =
    let next = subst (λ o. IsNextTaken c.args.options.certified c.args.ring.now c.args.region.now c.list.is_first c.list.invariant.under_way.0 c.list.waves o
    c.next_taken.new.ahead.items c.next_taken.new.waves) c.in-Some.is
    (c.in_ok-taken.ensures.ok c.list.invariant.under_way.0 c.list.invariant.under_way.1) in
    next.3

pub list-preserved : goal.list-preserved
list-preserved g c =
    let next = subst (λ o. IsNextTaken c.args.options.certified c.args.ring.now c.args.region.now c.list.is_first c.list.invariant.under_way.0 c.list.waves o
    c.next_taken.new.ahead.items c.next_taken.new.waves) c.in-Some.is
    (c.in_ok-taken.ensures.ok c.list.invariant.under_way.0 c.list.invariant.under_way.1) in
    let written = subst (λ f. IsBasisWritten c.args.options.certified c.args.ring.now c.args.region.now f c.in-Some.taken.basis (g.K.Sink.held c.list.output)
    (g.K.Sink.held c.write_taken.new.output)) next.2 c.in_ok-write_taken.ensures.all in
    record {
      under_way = (
        next.0,
        next.4,
        λ before fs s. goes_on before c.args.options c.args.ring.now c.args.region.now fs c.list.invariant.under_way.0 c.list.room c.list.is_first
            (g.K.Sink.held c.args.output.now) (g.K.Sink.held c.list.output) (c.list.invariant.under_way.2 before fs s) next.0 c.in-Some.taken.basis next.1
            c.in_ok-room.room (g.K.Sink.held c.write_taken.new.output) c.in_ok-room.ensures.ok written,
      );
      calm = c.in_ok-write_taken.ensures.calm ∙ c.list.invariant.calm;
    }

pub returns-in_err-room-clause-stopped : goal.returns-in_err-room-clause-stopped
returns-in_err-room-clause-stopped g c =
    let next = subst (λ o. IsNextTaken c.args.options.certified c.args.ring.now c.args.region.now c.list.is_first c.list.invariant.under_way.0 c.list.waves o
    c.next_taken.new.ahead.items c.next_taken.new.waves) c.in-Some.is
    (c.in_ok-taken.ensures.ok c.list.invariant.under_way.0 c.list.invariant.under_way.1) in
    let p = err_from_is_err_and c.from_residual-in_err-room.result c.from_residual-in_err-room.ensures.1 in
    rw (p.1, p.2) (λ before fs s. stopped_limit before c.args.options c.args.ring.now c.args.region.now fs c.list.invariant.under_way.0 c.list.room
    c.list.is_first (g.K.Sink.held c.args.output.now) (g.K.Sink.held c.list.output) (c.list.invariant.under_way.2 before fs s)
    next.0 c.in-Some.taken.basis next.1 (g.K.Sink.faults c.args.output.now) (g.K.Sink.faults c.list.output)
    c.in_err-room.field-0.0 c.in_err-room.ensures.err)

pub returns-in_err-write_taken-clause-stopped : goal.returns-in_err-write_taken-clause-stopped
returns-in_err-write_taken-clause-stopped g c =
    let next = subst (λ o. IsNextTaken c.args.options.certified c.args.ring.now c.args.region.now c.list.is_first c.list.invariant.under_way.0 c.list.waves o
    c.next_taken.new.ahead.items c.next_taken.new.waves) c.in-Some.is
    (c.in_ok-taken.ensures.ok c.list.invariant.under_way.0 c.list.invariant.under_way.1) in
    let unwritten =
    subst (λ f. IsBasisUnwritten c.args.options.certified c.args.ring.now c.args.region.now f c.in-Some.taken.basis (g.K.Sink.held c.list.output)
    (g.K.Sink.held c.write_taken.new.output) (g.K.Sink.faults c.list.output) (g.K.Sink.faults c.write_taken.new.output) c.in_err-write_taken.field-0.0)
    next.2 c.in_err-write_taken.ensures.err in
    let p = err_from_is_err_and c.from_residual-in_err-write_taken.result c.from_residual-in_err-write_taken.ensures.1 in
    rw (p.1, p.2) (λ before fs s. subst (λ k. IsListStoppedBehind before c.args.options c.args.ring.now c.args.region.now fs (g.K.Sink.held c.args.output.now)
    (g.K.Sink.held c.write_taken.new.output) k (g.K.Sink.faults c.write_taken.new.output) c.in_err-write_taken.field-0.0) c.list.invariant.calm
    (stopped_piece before c.args.options c.args.ring.now c.args.region.now fs c.list.invariant.under_way.0 c.list.room c.list.is_first
    (g.K.Sink.held c.args.output.now) (g.K.Sink.held c.list.output) (c.list.invariant.under_way.2 before fs s) next.0 c.in-Some.taken.basis next.1
    c.in_ok-room.room (g.K.Sink.held c.write_taken.new.output) (g.K.Sink.faults c.list.output) (g.K.Sink.faults c.write_taken.new.output)
    c.in_err-write_taken.field-0.0 c.in_ok-room.ensures.ok unwritten))

pub returns-in_err-offer-clause-stopped : goal.returns-in_err-offer-clause-stopped
returns-in_err-offer-clause-stopped g c =
    let next = subst (λ o. IsNextTaken c.args.options.certified c.args.ring.now c.args.region.now c.list.is_first c.list.invariant.under_way.0 c.list.waves o
    c.next_taken.new.ahead.items c.next_taken.new.waves) c.in_default.is
    (c.in_ok-taken.ensures.ok c.list.invariant.under_way.0 c.list.invariant.under_way.1) in
    let p = err_from_is_err_and c.from_residual-in_err-offer.result c.from_residual-in_err-offer.ensures.1 in
    rw (p.1, p.2) (λ before fs s. subst (λ k. IsListStoppedBehind before c.args.options c.args.ring.now c.args.region.now fs (g.K.Sink.held c.args.output.now)
    (g.K.Sink.held c.offer.new.output) k (g.K.Sink.faults c.offer.new.output) c.in_err-offer.field-0.0) c.list.invariant.calm
    (stopped_end before c.args.options c.args.ring.now c.args.region.now fs c.list.waves c.list.room c.list.is_first (g.K.Sink.held c.args.output.now)
    (g.K.Sink.held c.list.output) (way_kept before c.args.options c.args.ring.now c.args.region.now fs c.list.room c.list.is_first
    (g.K.Sink.held c.args.output.now) (g.K.Sink.held c.list.output) c.list.invariant.under_way.0 c.list.waves next.0
    (c.list.invariant.under_way.2 before fs s)) c.next_taken.new.waves next.1 (g.K.Sink.held c.offer.new.output) (g.K.Sink.faults c.list.output)
    (g.K.Sink.faults c.offer.new.output) c.in_err-offer.field-0.0
    (subst (λ x. IsUnwritten (g.K.Sink.held c.list.output) (g.K.Sink.held c.offer.new.output) (g.K.Sink.faults c.list.output)
    (g.K.Sink.faults c.offer.new.output) x c.in_err-offer.field-0.0) (c.deref.ensures.value ∙ c.in_ok-end.ensures) c.in_err-offer.ensures.err)))

pub returns-clause-done : goal.returns-clause-done
returns-clause-done g c =
    let next = subst (λ o. IsNextTaken c.args.options.certified c.args.ring.now c.args.region.now c.list.is_first c.list.invariant.under_way.0 c.list.waves o
    c.next_taken.new.ahead.items c.next_taken.new.waves) c.in_default.is
    (c.in_ok-taken.ensures.ok c.list.invariant.under_way.0 c.list.invariant.under_way.1) in
    λ before fs s. ends before c.args.options c.args.ring.now c.args.region.now fs c.list.waves c.list.room c.list.is_first (g.K.Sink.held c.args.output.now)
    (g.K.Sink.held c.list.output) (way_kept before c.args.options c.args.ring.now c.args.region.now fs c.list.room c.list.is_first
    (g.K.Sink.held c.args.output.now) (g.K.Sink.held c.list.output) c.list.invariant.under_way.0 c.list.waves next.0
    (c.list.invariant.under_way.2 before fs s)) c.next_taken.new.waves next.1 (g.K.Sink.held c.offer.new.output)
    (subst (Appends (g.K.Sink.held c.list.output) (g.K.Sink.held c.offer.new.output))
    (c.deref.ensures.value ∙ c.in_ok-end.ensures) c.in_ok-offer.ensures.all)

pub returns-in_err-write_taken-clause-told : goal.returns-in_err-write_taken-clause-told
returns-in_err-write_taken-clause-told g c =
    let next = subst (λ o. IsNextTaken c.args.options.certified c.args.ring.now c.args.region.now c.list.is_first c.list.invariant.under_way.0 c.list.waves o
    c.next_taken.new.ahead.items c.next_taken.new.waves) c.in-Some.is
    (c.in_ok-taken.ensures.ok c.list.invariant.under_way.0 c.list.invariant.under_way.1) in
    let unwritten =
    subst (λ f. IsBasisUnwritten c.args.options.certified c.args.ring.now c.args.region.now f c.in-Some.taken.basis (g.K.Sink.held c.list.output)
    (g.K.Sink.held c.write_taken.new.output) (g.K.Sink.faults c.list.output) (g.K.Sink.faults c.write_taken.new.output) c.in_err-write_taken.field-0.0)
    next.2 c.in_err-write_taken.ensures.err in
    let p = err_from_is_err_and c.from_residual-in_err-write_taken.result c.from_residual-in_err-write_taken.ensures.1 in
    rw (p.1, p.2) (unnamed_piece c.args.options.certified c.args.ring.now c.args.region.now c.list.is_first c.in-Some.taken.basis (g.K.Sink.held c.list.output)
    (g.K.Sink.held c.write_taken.new.output) (g.K.Sink.faults c.list.output) (g.K.Sink.faults c.write_taken.new.output) c.in_err-write_taken.field-0.0
    unwritten)

pub returns-in_err-write_taken-clause-calm : goal.returns-in_err-write_taken-clause-calm
returns-in_err-write_taken-clause-calm g c =
    let next = subst (λ o. IsNextTaken c.args.options.certified c.args.ring.now c.args.region.now c.list.is_first c.list.invariant.under_way.0 c.list.waves o
    c.next_taken.new.ahead.items c.next_taken.new.waves) c.in-Some.is
    (c.in_ok-taken.ensures.ok c.list.invariant.under_way.0 c.list.invariant.under_way.1) in
    let unwritten =
    subst (λ f. IsBasisUnwritten c.args.options.certified c.args.ring.now c.args.region.now f c.in-Some.taken.basis (g.K.Sink.held c.list.output)
    (g.K.Sink.held c.write_taken.new.output) (g.K.Sink.faults c.list.output) (g.K.Sink.faults c.write_taken.new.output) c.in_err-write_taken.field-0.0)
    next.2 c.in_err-write_taken.ensures.err in
    let p = err_from_is_err_and c.from_residual-in_err-write_taken.result c.from_residual-in_err-write_taken.ensures.1 in
    rw (p.1, p.2) (λ never. piece_calm c.args.options.certified c.args.ring.now c.args.region.now c.list.is_first c.in-Some.taken.basis
    (g.K.Sink.held c.list.output) (g.K.Sink.held c.write_taken.new.output) (g.K.Sink.faults c.list.output) (g.K.Sink.faults c.write_taken.new.output)
    (g.K.Sink.faults c.args.output.now) c.in_err-write_taken.field-0.0 unwritten c.list.invariant.calm never)
