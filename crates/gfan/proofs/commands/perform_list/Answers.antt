use Rattle.gf_frame.specs.Seen.{output_seen}
use Rattle.gf_frame.specs.Origins.{texts_of}
use Rattle.gf_frame.specs.Runs.{IsDoneOn, IsStoppedOn}
use Rattle.gfan_common.proofs.PerformedLaws.{on_ok, on_err}
use Rattle.gfan_plain_theory.specs.Asked.{ways_asked, texts_asked}
use Rattle.gfan.proofs.SourceLaws.{list_as}
use Rattle.gfan.proofs.commands.perform_list.Goals as goal

pub returns-clause-done : goal.returns-clause-done
returns-clause-done g c =
    let j = c.on-job.result in
    let o = output_seen (g.K.Sink.held c.args.output.now) (g.K.Sink.faults c.args.output.now) in
    let s = output_seen (g.K.Sink.held c.perform.new.output) (g.K.Sink.faults c.perform.new.output) in
    on_ok c.perform.result _ _ (list_as (λ k us. IsDoneOn k us o s) c.args.given.now (ways_asked j) j.options (texts_of c.args.texts.now) (texts_asked j)
    c.on-job.ensures.ways c.on-job.ensures.options c.on-job.ensures.texts) c.perform.ensures.done

pub returns-clause-stopped : goal.returns-clause-stopped
returns-clause-stopped g c =
    let j = c.on-job.result in
    let o = output_seen (g.K.Sink.held c.args.output.now) (g.K.Sink.faults c.args.output.now) in
    let s = output_seen (g.K.Sink.held c.perform.new.output) (g.K.Sink.faults c.perform.new.output) in
    on_err c.perform.result _ _ (λ e h. list_as (λ k us. IsStoppedOn k us o s e.refusal) c.args.given.now (ways_asked j) j.options (texts_of c.args.texts.now)
    (texts_asked j) c.on-job.ensures.ways c.on-job.ensures.options c.on-job.ensures.texts h) c.perform.ensures.stopped
