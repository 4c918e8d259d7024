use Rattle.std.proofs.lemmas.Result.{err_from_is_err_and}
use Rattle.gf_reduced.proofs.FormLaws.{monic_exact}
use Rattle.gf_reduced.proofs.forms.monic_form.Goals as goal

pub returns-in_err-form-clause-cause : goal.returns-in_err-form-clause-cause
returns-in_err-form-clause-cause c =
    let p = err_from_is_err_and c.from_residual.result c.from_residual.ensures.1 in
    rw (p.1, p.2) c.in_err-form.ensures.cause

pub returns-clause-value : goal.returns-clause-value
returns-clause-value c = monic_exact c.requires.n c.args.b.now c.in_ok-form.form c.requires.each c.head.ensures.marked c.head-2.ensures.marked
    c.in_ok-form.ensures.value
