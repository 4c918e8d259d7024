use Rattle.std.proofs.lemmas.Result.{err_from_is_err_and}
use Rattle.std.proofs.Common.{◌∙◌}
use Rattle.gf_fan_files.proofs.ReadAgainLaws.{again_read, again_text, again_refused, never_written}
use Rattle.gf_fan_files.proofs.again.read_again.Goals as goal

pub returns-clause-cones : goal.returns-clause-cones
returns-clause-cones c = again_read c.args.fan.now c.as_slice.result.now c.read.result c.written_fans_are_read.ensures c.cones.ensures.fan
    c.fan_is_read_again.ensures.writable (c.as_slice.ensures.value ∙ c.in_ok-text.ensures.ok) c.read.ensures.fan

pub returns-clause-text : goal.returns-clause-text
returns-clause-text c = again_text c.args.fan.now c.as_slice.result.now c.read.result c.written_fans_are_read.ensures c.cones.ensures.fan c.read.ensures.fan
    (again_read c.args.fan.now c.as_slice.result.now c.read.result c.written_fans_are_read.ensures c.cones.ensures.fan c.fan_is_read_again.ensures.writable
    (c.as_slice.ensures.value ∙ c.in_ok-text.ensures.ok) c.read.ensures.fan)

pub returns-clause-err : goal.returns-clause-err
returns-clause-err c = again_refused c.args.fan.now c.as_slice.result.now c.read.result c.written_fans_are_read.ensures c.cones.ensures.fan
    c.fan_is_read_again.ensures.writable (c.as_slice.ensures.value ∙ c.in_ok-text.ensures.ok) c.read.ensures.err

pub returns-in_err-text-clause-err : goal.returns-in_err-text-clause-err
returns-in_err-text-clause-err c =
    let p = err_from_is_err_and c.from_residual.result c.from_residual.ensures.1 in
    rw p.1 (never_written c.args.fan.now c.in_err-text.field-0.0 p.0 c.in_err-text.ensures.wide p.2)
