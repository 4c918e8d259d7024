use Rattle.std.proofs.Common.{◌≤◌, ◌+◌, ◌*◌, length, replicate, sym, ap, subst, ◌∙◌, rules, arith}
use Rattle.std.specs.VecDeque.{deque_capacity}
use Rattle.gf_reverse_search.specs.Pieces.{RefusesAt}
use Rattle.gf_waves.specs.Frontier.{AreRefusals}
use Rattle.gf_waves.specs.Plans.{AreFreeBatches}
use Rattle.gf_waves.specs.Wave.{IsWaved}
use Rattle.gf_waves.proofs.PlanLaws.{planned_fits, wave_of}
use Rattle.gf_waves.proofs.RefusedLaws.{waved_refusals}
use Rattle.gf_waves.proofs.wave.wave.Goals as goal

pub deal-requires-clause-free : goal.deal-requires-clause-free
deal-requires-clause-free g c =
    let count = (planned_fits (length c.in_ok-spares.spares.items) c.args.row.now.items c.plan.new.row.items c.plan.new.slots.items c.plan.ensures).1 in
    subst (λ m. AreFreeBatches m c.in_ok-shared.shared.items) (sym (count ∙ c.in_ok-spares.ensures.count)) c.in_ok-shared.ensures.free

pub deal-requires-clause-fit : goal.deal-requires-clause-fit
deal-requires-clause-fit g c =
    (planned_fits (length c.in_ok-spares.spares.items) c.args.row.now.items c.plan.new.row.items c.plan.new.slots.items c.plan.ensures).0

pub merge-requires-clause-room : goal.merge-requires-clause-room
merge-requires-clause-room g c =
    let e = c.work_batches.ensures in
    let few = (wave_of g.T.Tree.before g.T.Tree.up (RefusesAt g.T.Tree.up g.T.Tree.refuses) c.args.due c.args.times c.args.room
    (length c.in_ok-spares.spares.items) c.args.row.now.items c.plan.new.row.items c.plan.new.slots.items
    c.deal.new.batches.items c.work_batches.new.batches.items (length c.in_ok-shared.shared.items) c.in_ok-spares.ensures.count c.plan.ensures
    c.deal.ensures.dealt
    c.deal.ensures.count c.in_ok-shared.ensures.count e.same_length e.each).1 in
    let fits = c.requires.fits in
    let room : (c.args.workers + 1) * 128 ≤ deque_capacity c.in_ok-news.news = search rules in
    omega (arith, few, fits, room)

pub returns-clause-waved : goal.returns-clause-waved
returns-clause-waved g c =
    let lt = g.T.Tree.before in
    let up = g.T.Tree.up in
    let refuses = RefusesAt up g.T.Tree.refuses in
    let e = c.work_batches.ensures in
    subst (IsWaved lt up refuses (c.args.due * 12) (replicate c.args.due (c.args.times, c.args.room)) c.args.row.now.items) (sym c.merge.ensures)
    (wave_of lt up refuses c.args.due c.args.times c.args.room (length c.in_ok-spares.spares.items) c.args.row.now.items c.plan.new.row.items
    c.plan.new.slots.items
    c.deal.new.batches.items c.work_batches.new.batches.items (length c.in_ok-shared.shared.items) c.in_ok-spares.ensures.count c.plan.ensures
    c.deal.ensures.dealt
    c.deal.ensures.count c.in_ok-shared.ensures.count e.same_length e.each).0

pub returns-clause-refused : goal.returns-clause-refused
returns-clause-refused g c =
    let lt = g.T.Tree.before in
    let up = g.T.Tree.up in
    let refuses = RefusesAt up g.T.Tree.refuses in
    let e = c.work_batches.ensures in
    subst (AreRefusals refuses) (sym c.merge.ensures)
    (waved_refusals lt up refuses (c.args.due * 12) (replicate c.args.due (c.args.times, c.args.room)) c.args.row.now.items _
    (wave_of lt up refuses c.args.due c.args.times c.args.room (length c.in_ok-spares.spares.items) c.args.row.now.items c.plan.new.row.items
    c.plan.new.slots.items
    c.deal.new.batches.items c.work_batches.new.batches.items (length c.in_ok-shared.shared.items) c.in_ok-spares.ensures.count c.plan.ensures
    c.deal.ensures.dealt
    c.deal.ensures.count c.in_ok-shared.ensures.count e.same_length e.each).0 c.requires.refused)

pub returns-clause-few : goal.returns-clause-few
returns-clause-few g c =
    let e = c.work_batches.ensures in
    let few = (wave_of g.T.Tree.before g.T.Tree.up (RefusesAt g.T.Tree.up g.T.Tree.refuses) c.args.due c.args.times c.args.room
    (length c.in_ok-spares.spares.items) c.args.row.now.items c.plan.new.row.items c.plan.new.slots.items
    c.deal.new.batches.items c.work_batches.new.batches.items (length c.in_ok-shared.shared.items) c.in_ok-spares.ensures.count c.plan.ensures
    c.deal.ensures.dealt
    c.deal.ensures.count c.in_ok-shared.ensures.count e.same_length e.each).1 in
    let fits = c.requires.fits in
    let same = ap length c.merge.ensures in
    omega (arith, few, fits, same)
