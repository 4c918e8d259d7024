use Rattle.std.proofs.Common.{refl}
use Rattle.std.proofs.lemmas.Result.{err_from_is_err_and}
use Rattle.gf_division.specs.Dividends.{split_of, joined_terms}
use Rattle.gf_division.proofs.RemainderLaws.{work_follows, refusal_follows, worked_along, refused_along}
use Rattle.gf_division.proofs.remainders.work_off.Goals as goal

pub returns-clause-worked : goal.returns-clause-worked
returns-clause-worked c = work_follows c.args.by.now c.args.spared.now (split_of c.args.rest.now) (split_of c.shortened.new.rest)
    (split_of c.shortened.new.rest) (split_of c.by_guide.new.rest) c.by_guide.result refl
    (worked_along c.args.by.now c.args.spared.now (split_of c.args.rest.now) (split_of c.by_rule.new.rest) (split_of c.shortened.new.rest)
    c.in_ok-by_rule.ensures.worked c.in_ok-shortened.ensures.worked) c.by_guide.ensures.worked

pub returns-clause-cause : goal.returns-clause-cause
returns-clause-cause c = refusal_follows c.args.by.now c.args.spared.now (split_of c.args.rest.now) (split_of c.shortened.new.rest)
    (split_of c.shortened.new.rest) c.by_guide.result refl (worked_along c.args.by.now c.args.spared.now (split_of c.args.rest.now)
    (split_of c.by_rule.new.rest) (split_of c.shortened.new.rest) c.in_ok-by_rule.ensures.worked c.in_ok-shortened.ensures.worked) c.by_guide.ensures.cause

pub returns-in_err-shortened-clause-cause : goal.returns-in_err-shortened-clause-cause
returns-in_err-shortened-clause-cause c =
    let p = err_from_is_err_and c.from_residual-in_err-shortened.result c.from_residual-in_err-shortened.ensures.1 in
    rw (p.1, p.2) (refused_along c.args.by.now c.args.spared.now (split_of c.args.rest.now) (split_of c.by_rule.new.rest)
    (joined_terms (split_of c.by_rule.new.rest)) c.in_err-shortened.field-0.0 refl c.in_ok-by_rule.ensures.worked c.in_err-shortened.ensures.cause)
