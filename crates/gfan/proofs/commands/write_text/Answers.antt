use Rattle.std.proofs.Common.{ap, sym, subst}
use Rattle.gf_frame.specs.Seen.{output_seen}
use Rattle.gf_frame.proofs.WorkLaws.{once_done, once_cut}
use Rattle.gfan_common.specs.Refused.{IsUnnamed}
use Rattle.gfan_common.proofs.RefusedLaws.{write_unnamed}
use Rattle.gfan.specs.Commands.{command_of}
use Rattle.gfan.proofs.commands.write_text.Goals as goal

pub returns-in-Ok-clause-done : goal.returns-in-Ok-clause-done
returns-in-Ok-clause-done g c = λ job texts once answered.
    once_done (command_of job) once texts (output_seen (g.K.Sink.held c.args.output.now) (g.K.Sink.faults c.args.output.now))
    (output_seen (g.K.Sink.held c.write_all.new.sink) (g.K.Sink.faults c.write_all.new.sink)) c.args.text.now answered c.in-Ok.ensures.all c.in-Ok.ensures.calm

pub returns-in-Err-clause-stopped : goal.returns-in-Err-clause-stopped
returns-in-Err-clause-stopped g c = λ job texts once answered.
    once_cut (command_of job) once texts (output_seen (g.K.Sink.held c.args.output.now) (g.K.Sink.faults c.args.output.now))
    (output_seen (g.K.Sink.held c.write_all.new.sink) (g.K.Sink.faults c.write_all.new.sink)) _ c.args.text.now answered (ap (λ e. e.refusal) c.from.ensures)
    c.in-Err.ensures.fault c.in-Err.ensures.part

pub returns-in-Err-clause-told : goal.returns-in-Err-clause-told
returns-in-Err-clause-told g c = subst IsUnnamed (sym c.from.ensures) write_unnamed
