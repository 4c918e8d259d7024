use Rattle.std.proofs.lemmas.Result.{err_from_is_err_and}
use Rattle.gf_fan_files.specs.FilesFans.{before_cones}
use Rattle.gf_fan_files.proofs.FilesLaws.{file_within}
use Rattle.gf_fan_files.proofs.FilesFansLaws.{fan_said, fan_narrow, fan_refusal, fan_complete}
use Rattle.gf_fan_files.proofs.FanOnceLaws.{refusals_once, always_refused}
use Rattle.gf_fan_files.proofs.fan.read.Goals as goal

pub returns-in_err-file-clause-err : goal.returns-in_err-file-clause-err
returns-in_err-file-clause-err c =
    let p = err_from_is_err_and c.from_residual.result c.from_residual.ensures.1 in
    rw (p.1, p.2) (before_cones c.in_err-file.ensures.err)

pub returns-in_err-file-clause-complete : goal.returns-in_err-file-clause-complete
returns-in_err-file-clause-complete c = λ f is sound within certified meeting.
    let p = err_from_is_err_and c.from_residual.result c.from_residual.ensures.1 in
    rw (p.1, p.2) (c.in_err-file.ensures.complete f is sound within.tests)

pub returns-in_err-file-clause-always : goal.returns-in_err-file-clause-always
returns-in_err-file-clause-always c = λ e refused told.
    let p = err_from_is_err_and c.from_residual.result c.from_residual.ensures.1 in
    rw (p.1, p.2) (refusals_once c.args.source.now e c.in_err-file.field-0.0 told refused (before_cones c.in_err-file.ensures.err))

pub fan_of-requires-clause-ambient : goal.fan_of-requires-clause-ambient
fan_of-requires-clause-ambient c = file_within c.args.source.now c.in_ok-file.file c.in_ok-file.ensures.file

pub returns-clause-ambient : goal.returns-clause-ambient
returns-clause-ambient c = fan_narrow c.args.source.now c.in_ok-file.file c.fan_of.result c.in_ok-file.ensures.file c.fan_of.ensures.ok

pub returns-clause-err : goal.returns-clause-err
returns-clause-err c = fan_refusal c.args.source.now c.in_ok-file.file c.fan_of.result c.in_ok-file.ensures.file c.in_ok-file.ensures.sound c.fan_of.ensures.err

pub returns-clause-complete : goal.returns-clause-complete
returns-clause-complete c = λ f is sound within certified meeting.
    fan_complete c.args.source.now f c.in_ok-file.file c.fan_of.result is c.in_ok-file.ensures.file within certified meeting c.fan_of.ensures.ok
    c.fan_of.ensures.err

pub returns-clause-always : goal.returns-clause-always
returns-clause-always c = λ e refused told.
    always_refused c.args.source.now e c.fan_of.result told refused (fan_said c.args.source.now c.in_ok-file.file c.fan_of.result c.in_ok-file.ensures.file
    c.in_ok-file.ensures.sound c.fan_of.ensures.ok)
    (fan_refusal c.args.source.now c.in_ok-file.file c.fan_of.result c.in_ok-file.ensures.file c.in_ok-file.ensures.sound c.fan_of.ensures.err)
