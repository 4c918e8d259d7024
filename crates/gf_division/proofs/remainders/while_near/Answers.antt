use Rattle.std.proofs.Common.{subst, ℕ}
use Rattle.std.specs.Prelude.{IfSome}
use Rattle.std.specs.declared.option.Option.{Option}
use Rattle.std.proofs.lemmas.Result.{err_from_is_err_and}
use Rattle.gf_division.specs.Dividends.{split_of, joined_terms}
use Rattle.gf_division.specs.Reducers.{IsReducibleFirst}
use Rattle.gf_division.proofs.RuleLaws.{share_along}
use Rattle.gf_division.proofs.RemainderLaws.{worked-none, worked-same, refused_along}
use Rattle.gf_division.proofs.ChainLaws.{strode, strode_less}
use Rattle.gf_division.proofs.remainders.while_near.Goals as goal

pub steps-init : goal.steps-init
steps-init c = worked-none c.args.by.now c.args.spared.now (split_of c.args.rest.now) c.requires.variables

pub stride-requires-clause-variables : goal.stride-requires-clause-variables
stride-requires-clause-variables c = share_along (split_of c.steps.rest) (split_of c.next_waiting.new.rest) c.args.by.now c.args.spared.now
    c.in_ok-j.ensures.same c.steps.invariant.variables

pub stride-requires-clause-found : goal.stride-requires-clause-found
stride-requires-clause-found c = subst (λ (o : Option ℕ). IfSome o (IsReducibleFirst c.args.by.now c.args.spared.now (split_of c.next_waiting.new.rest)))
    c.in-Some.is c.in_ok-j.ensures.found

pub returns-in_err-stride-clause-cause : goal.returns-in_err-stride-clause-cause
returns-in_err-stride-clause-cause c =
    let p = err_from_is_err_and c.from_residual-in_err-stride.result c.from_residual-in_err-stride.ensures.1 in
    rw (p.1, p.2) (refused_along c.args.by.now c.args.spared.now (split_of c.args.rest.now) (split_of c.steps.rest)
    (joined_terms (split_of c.next_waiting.new.rest)) c.in_err-stride.field-0.0 c.in_ok-j.ensures.same c.steps.invariant c.in_err-stride.ensures.cause)

pub steps-smaller : goal.steps-smaller
steps-smaller c = strode_less c.args.by.now c.requires.marked.0 (split_of c.steps.rest) (split_of c.next_waiting.new.rest) (split_of c.stride.new.rest)
    c.in_ok-j.ensures.same c.requires.marked.1 c.in_ok-stride.ensures.work

pub steps-preserved : goal.steps-preserved
steps-preserved c = strode c.args.by.now c.args.spared.now (split_of c.args.rest.now) (split_of c.steps.rest) (split_of c.next_waiting.new.rest)
    (split_of c.stride.new.rest) c.in_ok-j.ensures.same c.steps.invariant c.in_ok-stride.ensures.worked

pub returns-clause-worked : goal.returns-clause-worked
returns-clause-worked c = worked-same c.args.by.now c.args.spared.now (split_of c.args.rest.now) (split_of c.steps.rest) (split_of c.next_waiting.new.rest)
    c.in_ok-j.ensures.same c.steps.invariant

pub returns-then-is_far-clause-worked : goal.returns-then-is_far-clause-worked
returns-then-is_far-clause-worked c = strode c.args.by.now c.args.spared.now (split_of c.args.rest.now) (split_of c.steps.rest)
    (split_of c.next_waiting.new.rest) (split_of c.stride.new.rest) c.in_ok-j.ensures.same c.steps.invariant c.in_ok-stride.ensures.worked
