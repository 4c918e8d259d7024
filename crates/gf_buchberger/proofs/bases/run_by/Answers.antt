use Rattle.gf_buchberger.specs.Runs.{state_of}
use Rattle.gf_buchberger.proofs.BasesOfRuns.{generators_stop, stop_variables, stop_stops, is_end, end_realisable, arranged_basis, autoreduction_stops}
use Rattle.gf_buchberger.proofs.ReducedPairLaws.{variables_each}
use Rattle.gf_buchberger.proofs.RuledLaws.{ruled_generators_stop, ruled_stop, ruled_tails_stop}
use Rattle.gf_buchberger.proofs.bases.run_by.Goals as goal

pub entered-requires : goal.entered-requires
entered-requires c = record { n = c.args.task.now.n; task = c.requires }

pub returns-in-Err-entered-clause-err : goal.returns-in-Err-entered-clause-err
returns-in-Err-entered-clause-err c =
    generators_stop c.args.strategy c.args.task.now.order.now c.args.task.now.n c.args.task.now.pairs c.args.task.now.set.now c.in-Err-entered.refusal
    c.refused.result c.requires.ring c.in-Err-entered.ensures.cause c.refused.ensures

pub settle_all-requires : goal.settle_all-requires
settle_all-requires c = record {
  n = c.args.task.now.n;
  fs = c.args.task.now.set.now;
  task = c.requires;
  run = c.in-Ok-entered.ensures.ok.run c.args.task.now.n c.requires.ring;
}

pub stopped-requires : goal.stopped-requires
stopped-requires c = stop_variables c.args.task.now.order.now c.args.task.now.n c.args.task.now.pairs c.args.task.now.set.now (state_of c.in-Ok-entered.start)
    c.in-Err-settle_all.stop (c.in-Ok-entered.ensures.ok.run c.args.task.now.n c.requires.ring) c.in-Err-settle_all.ensures.stop

pub returns-in-Err-settle_all-clause-err : goal.returns-in-Err-settle_all-clause-err
returns-in-Err-settle_all-clause-err c = stop_stops c.args.task.now.order.now c.args.task.now.n c.args.task.now.pairs c.args.task.now.set.now
    (state_of c.in-Ok-entered.start) c.in-Err-settle_all.stop c.stopped.result c.in-Ok-entered.ensures.ok.unsettled
    (c.in-Ok-entered.ensures.ok.run c.args.task.now.n c.requires.ring) c.in-Err-settle_all.ensures.stop c.stopped.ensures

pub set_of-members-requires : goal.set_of-members-requires
set_of-members-requires c =
    let e =
    is_end c.args.strategy c.args.task.now.order.now c.args.task.now.n c.args.task.now.pairs c.args.task.now.set.now (state_of c.in-Ok-entered.start)
    (state_of c.in-Ok-settle_all.run') c.requires c.in-Ok-entered.ensures.ok c.in-Ok-settle_all.ensures.done in
    variables_each c.args.task.now.n _ e.variables

pub interreduced-requires : goal.interreduced-requires
interreduced-requires c =
    let e =
    is_end c.args.strategy c.args.task.now.order.now c.args.task.now.n c.args.task.now.pairs c.args.task.now.set.now (state_of c.in-Ok-entered.start)
    (state_of c.in-Ok-settle_all.run') c.requires c.in-Ok-entered.ensures.ok c.in-Ok-settle_all.ensures.done in
    end_realisable c.args.task.now.order.now c.args.task.now.n c.args.task.now.set.now _ c.set_of-members.result e c.set_of-members.ensures

pub returns-in-Ok-interreduced-clause-ok : goal.returns-in-Ok-interreduced-clause-ok
returns-in-Ok-interreduced-clause-ok c =
    let e =
    is_end c.args.strategy c.args.task.now.order.now c.args.task.now.n c.args.task.now.pairs c.args.task.now.set.now (state_of c.in-Ok-entered.start)
    (state_of c.in-Ok-settle_all.run') c.requires c.in-Ok-entered.ensures.ok c.in-Ok-settle_all.ensures.done in
    arranged_basis c.args.task.now.order.now c.args.task.now.n c.args.task.now.set.now _ c.set_of-members.result c.in-Ok-interreduced.basis e
    c.set_of-members.ensures c.in-Ok-interreduced.ensures.value
    c.in-Ok-interreduced.ensures.arranged c.in-Ok-interreduced.ensures.marked c.in-Ok-interreduced.ensures.reduced

pub returns-clause-err : goal.returns-clause-err
returns-clause-err c =
    let e =
    is_end c.args.strategy c.args.task.now.order.now c.args.task.now.n c.args.task.now.pairs c.args.task.now.set.now (state_of c.in-Ok-entered.start)
    (state_of c.in-Ok-settle_all.run') c.requires c.in-Ok-entered.ensures.ok c.in-Ok-settle_all.ensures.done in
    autoreduction_stops c.args.task.now.order.now c.args.task.now.n c.args.task.now.pairs c.args.task.now.set.now _ c.set_of-members.result
    c.in-Err-interreduced.refusal c.refused-in-Err-interreduced.result e c.set_of-members.ensures c.in-Err-interreduced.ensures.cause
    c.refused-in-Err-interreduced.ensures

pub returns-in-Err-entered-clause-by_rule : goal.returns-in-Err-entered-clause-by_rule
returns-in-Err-entered-clause-by_rule c =
    ruled_generators_stop c.args.strategy c.args.task.now.order.now c.args.task.now.set.now c.args.task.now.pairs c.in-Err-entered.refusal c.refused.result
    c.in-Err-entered.ensures.cause c.refused.ensures

pub returns-in-Err-settle_all-clause-by_rule : goal.returns-in-Err-settle_all-clause-by_rule
returns-in-Err-settle_all-clause-by_rule c =
    ruled_stop c.args.strategy c.args.task.now.order.now c.args.task.now.n c.args.task.now.set.now c.args.task.now.pairs
    (state_of c.in-Ok-entered.start) c.in-Err-settle_all.stop c.stopped.result c.in-Ok-entered.ensures.ok.unsettled c.in-Ok-entered.ensures.ok.ruled
    c.in-Err-settle_all.ensures.stop c.stopped.ensures

pub returns-clause-by_rule : goal.returns-clause-by_rule
returns-clause-by_rule c =
    let done = c.in-Ok-settle_all.ensures.done in
    let e =
    is_end c.args.strategy c.args.task.now.order.now c.args.task.now.n c.args.task.now.pairs c.args.task.now.set.now (state_of c.in-Ok-entered.start)
    (state_of c.in-Ok-settle_all.run') c.requires c.in-Ok-entered.ensures.ok done in
    ruled_tails_stop c.args.strategy c.args.task.now.order.now c.args.task.now.n c.args.task.now.set.now c.args.task.now.pairs
    (state_of c.in-Ok-settle_all.run') c.set_of-members.result c.in-Err-interreduced.refusal c.refused-in-Err-interreduced.result
    (done.settling.ruled c.args.strategy c.args.task.now.set.now c.in-Ok-entered.ensures.ok.ruled) done.none e.work c.set_of-members.ensures
    c.in-Err-interreduced.ensures.cause c.refused-in-Err-interreduced.ensures
