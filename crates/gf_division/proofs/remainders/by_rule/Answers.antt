use Rattle.std.proofs.Common.{subst}
use Rattle.std.proofs.lemmas.Result.{err_from_is_err_and}
use Rattle.gf_division.specs.Dividends.{split_of, joined_terms}
use Rattle.gf_division.specs.Reducers.{IsSought}
use Rattle.gf_division.proofs.RuleLaws.{share_along}
use Rattle.gf_division.proofs.RemainderLaws.{working-none, working_end, worked-same, refused_along}
use Rattle.gf_division.proofs.ChainLaws.{strode_by_rule}
use Rattle.gf_division.proofs.remainders.by_rule.Goals as goal

pub steps-init : goal.steps-init
steps-init c = working-none c.args.by.now c.args.spared.now (split_of c.args.rest.now) c.requires.variables c.requires.above

pub stride-requires-clause-variables : goal.stride-requires-clause-variables
stride-requires-clause-variables c = share_along (split_of c.steps.rest) (split_of c.seek.new.rest) c.args.by.now c.args.spared.now c.in_ok-j.ensures.same
    c.steps.invariant.worked.variables

pub stride-requires-clause-found : goal.stride-requires-clause-found
stride-requires-clause-found c = subst (IsSought c.args.by.now c.args.spared.now (split_of c.seek.new.rest)) c.in-Some.is c.in_ok-j.ensures.found

pub returns-in_err-others-in-Some-clause-cause : goal.returns-in_err-others-in-Some-clause-cause
returns-in_err-others-in-Some-clause-cause c =
    let p = err_from_is_err_and c.from_residual-in_err-others-in-Some.result c.from_residual-in_err-others-in-Some.ensures.1 in
    rw (p.1, p.2) (refused_along c.args.by.now c.args.spared.now (split_of c.args.rest.now) (split_of c.steps.rest) (joined_terms (split_of c.seek.new.rest))
    c.in_err-others-in-Some.field-0.0 c.in_ok-j.ensures.same c.steps.invariant.worked c.in_err-others-in-Some.ensures.cause)

pub steps-preserved : goal.steps-preserved
steps-preserved c = strode_by_rule c.args.by.now c.args.spared.now (split_of c.args.rest.now) (split_of c.steps.rest) (split_of c.seek.new.rest)
    (split_of c.stride.new.rest) c.in_ok-j.ensures.same c.in_ok-j.ensures.above c.steps.invariant c.in_ok-others-in-Some.ensures.worked
    c.in_ok-others-in-Some.ensures.above

pub returns-in-None-clause-worked : goal.returns-in-None-clause-worked
returns-in-None-clause-worked c = worked-same c.args.by.now c.args.spared.now (split_of c.args.rest.now) (split_of c.steps.rest) (split_of c.seek.new.rest)
    c.in_ok-j.ensures.same c.steps.invariant.worked

pub returns-in-None-clause-done : goal.returns-in-None-clause-done
returns-in-None-clause-done c = λ t. working_end c.args.by.now c.args.spared.now (split_of c.seek.new.rest)
    (subst (IsSought c.args.by.now c.args.spared.now (split_of c.seek.new.rest)) c.in-None.is c.in_ok-j.ensures.found) c.in_ok-j.ensures.above
