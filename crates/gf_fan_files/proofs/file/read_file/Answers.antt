use Rattle.std.proofs.lemmas.Result.{err_from_is_err_and}
use Rattle.gf_fan_files.proofs.FilesLaws.{text_refused, form_refused, file_once, refused_sound}
use Rattle.gf_fan_files.proofs.OnceLaws.{refused_once, refused_unsound}
use Rattle.gf_fan_files.proofs.file.read_file.Goals as goal

pub returns-in_err-contents_of-clause-err : goal.returns-in_err-contents_of-clause-err
returns-in_err-contents_of-clause-err c =
    let p = err_from_is_err_and c.from_residual.result c.from_residual.ensures.1 in
    rw (p.1, p.2) (text_refused c.args.source.now c.in_err-contents_of.field-0.0 c.in_err-contents_of.ensures.says)

pub returns-in_err-contents_of-clause-complete : goal.returns-in_err-contents_of-clause-complete
returns-in_err-contents_of-clause-complete c = λ f is sound within.
    let p = err_from_is_err_and c.from_residual.result c.from_residual.ensures.1 in
    rw (p.1, p.2) (refused_sound c.args.source.now f c.in_err-contents_of.field-0.0 is sound within
    (text_refused c.args.source.now c.in_err-contents_of.field-0.0 c.in_err-contents_of.ensures.says))

pub returns-in_err-file-clause-err : goal.returns-in_err-file-clause-err
returns-in_err-file-clause-err c =
    let p = err_from_is_err_and c.from_residual-in_err-file.result c.from_residual-in_err-file.ensures.1 in
    rw (p.1, p.2) (c.in_err-file.ensures.missing c.args.source.now c.in_ok-contents_of.ensures.says)

pub returns-in_err-file-clause-complete : goal.returns-in_err-file-clause-complete
returns-in_err-file-clause-complete c = λ f is sound within.
    let p = err_from_is_err_and c.from_residual-in_err-file.result c.from_residual-in_err-file.ensures.1 in
    rw (p.1, p.2) (refused_sound c.args.source.now f c.in_err-file.field-0.0 is sound within
    (c.in_err-file.ensures.missing c.args.source.now c.in_ok-contents_of.ensures.says))

pub returns-in_err-check-clause-err : goal.returns-in_err-check-clause-err
returns-in_err-check-clause-err c =
    let source = c.args.source.now in
    let p = err_from_is_err_and c.from_residual-in_err-check.result c.from_residual-in_err-check.ensures.1 in
    rw (p.1, p.2) (form_refused source c.in_ok-file.file c.in_err-check.field-0.0 (c.in_ok-file.ensures.file source c.in_ok-contents_of.ensures.says)
    c.in_err-check.ensures)

pub returns-in_err-check-clause-complete : goal.returns-in_err-check-clause-complete
returns-in_err-check-clause-complete c = λ f is sound within.
    let source = c.args.source.now in
    let p = err_from_is_err_and c.from_residual-in_err-check.result c.from_residual-in_err-check.ensures.1 in
    rw (p.1, p.2) (refused_sound source f c.in_err-check.field-0.0 is sound within (form_refused source c.in_ok-file.file c.in_err-check.field-0.0
    (c.in_ok-file.ensures.file source c.in_ok-contents_of.ensures.says) c.in_err-check.ensures))

pub returns-clause-complete : goal.returns-clause-complete
returns-clause-complete c = λ f is sound within.
    file_once c.args.source.now f c.in_ok-file.file is (c.in_ok-file.ensures.file c.args.source.now c.in_ok-contents_of.ensures.says)

pub returns-in_err-contents_of-clause-always : goal.returns-in_err-contents_of-clause-always
returns-in_err-contents_of-clause-always c = λ e refused told.
    let p = err_from_is_err_and c.from_residual.result c.from_residual.ensures.1 in
    rw (p.1, p.2) (refused_once c.args.source.now e c.in_err-contents_of.field-0.0 told refused
    (text_refused c.args.source.now c.in_err-contents_of.field-0.0 c.in_err-contents_of.ensures.says))

pub returns-in_err-file-clause-always : goal.returns-in_err-file-clause-always
returns-in_err-file-clause-always c = λ e refused told.
    let p = err_from_is_err_and c.from_residual-in_err-file.result c.from_residual-in_err-file.ensures.1 in
    rw (p.1, p.2) (refused_once c.args.source.now e c.in_err-file.field-0.0 told refused
    (c.in_err-file.ensures.missing c.args.source.now c.in_ok-contents_of.ensures.says))

pub returns-in_err-check-clause-always : goal.returns-in_err-check-clause-always
returns-in_err-check-clause-always c = λ e refused told.
    let source = c.args.source.now in
    let p = err_from_is_err_and c.from_residual-in_err-check.result c.from_residual-in_err-check.ensures.1 in
    rw (p.1, p.2) (refused_once source e c.in_err-check.field-0.0 told refused (form_refused source c.in_ok-file.file c.in_err-check.field-0.0
    (c.in_ok-file.ensures.file source c.in_ok-contents_of.ensures.says) c.in_err-check.ensures))

pub returns-clause-always : goal.returns-clause-always
returns-clause-always c = λ e refused told.
    refused_unsound c.args.source.now c.in_ok-file.file e told (c.in_ok-file.ensures.file c.args.source.now c.in_ok-contents_of.ensures.says)
    c.in_ok-check.ensures refused
