use Rattle.std.proofs.lemmas.Result.{err_from_is_err_and}
use Rattle.std.specs.Prelude.{None}
use Rattle.gf_division.specs.Dividends.{split_of}
use Rattle.gf_division.proofs.RemainderLaws.{share_start, nothing_above, remainder_at, normal_form_of, remainder_keeps, remainder_refused}
use Rattle.gf_division.proofs.remainders.remainder.Goals as goal

pub work_off-requires-clause-variables : goal.work_off-requires-clause-variables
work_off-requires-clause-variables c = share_start c.args.f c.args.by.now (split_of c.new-rest.result) c.requires.variables c.new-rest.ensures.descending
    c.new-rest.ensures.value

pub work_off-requires-clause-above : goal.work_off-requires-clause-above
work_off-requires-clause-above c = nothing_above c.args.f c.args.by.now None (split_of c.new-rest.result) c.new-rest.ensures.value

pub returns-in_err-work_off-clause-cause : goal.returns-in_err-work_off-clause-cause
returns-in_err-work_off-clause-cause c =
    let p = err_from_is_err_and c.from_residual.result c.from_residual.ensures.1 in
    rw (p.1, p.2) (remainder_refused c.args.by.now c.args.f (split_of c.new-rest.result) c.in_err-work_off.field-0.0 c.new-rest.ensures.value
    c.in_err-work_off.ensures.cause)

pub returns-clause-value : goal.returns-clause-value
returns-clause-value c = remainder_at c.args.by.now c.args.f c.in_ok-into_poly.field-0 (split_of c.new-rest.result) (split_of c.work_off.new.rest)
    c.new-rest.ensures.value c.in_ok-into_poly.ensures c.in_ok-work_off.ensures.done c.in_ok-work_off.ensures.worked

pub returns-clause-normal_form : goal.returns-clause-normal_form
returns-clause-normal_form c = normal_form_of c.args.by.now c.requires.marked.0 c.args.f c.in_ok-into_poly.field-0 (split_of c.new-rest.result)
    (split_of c.work_off.new.rest) c.requires.marked.1 c.new-rest.ensures.value c.in_ok-into_poly.ensures c.in_ok-work_off.ensures.done
    c.in_ok-work_off.ensures.worked

pub returns-clause-variables : goal.returns-clause-variables
returns-clause-variables c = remainder_keeps c.args.by.now c.args.f c.in_ok-into_poly.field-0 (split_of c.new-rest.result) (split_of c.work_off.new.rest)
    c.new-rest.ensures.value c.in_ok-into_poly.ensures c.in_ok-work_off.ensures.worked
