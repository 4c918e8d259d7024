use Rattle.std.proofs.lemmas.Result.{err_from_is_err_and}
use Rattle.gf_division.specs.Dividends.{split_of}
use Rattle.gf_division.proofs.RuleLaws.{found_shares, found_divides}
use Rattle.gf_division.proofs.ChainLaws.{jumped_found, jumped_step, jumped_front, jumped_less, jumped_refused}
use Rattle.gf_division.proofs.chains.stride.Goals as goal

pub step-requires-clause-variables : goal.step-requires-clause-variables
step-requires-clause-variables c = found_shares c.args.by.now c.args.spared.now (split_of c.leap.new.rest) c.args.j c.index-by-j.result
    (jumped_found c.args.by.now c.args.j c.args.spared.now (split_of c.args.rest.now) (split_of c.leap.new.rest) c.index-by-j.result c.index-by-j.is
    c.in_ok-others.ensures)

pub step-requires-clause-divides : goal.step-requires-clause-divides
step-requires-clause-divides c = found_divides c.args.by.now c.args.spared.now (split_of c.leap.new.rest) c.args.j c.index-by-j.result
    (jumped_found c.args.by.now c.args.j c.args.spared.now (split_of c.args.rest.now) (split_of c.leap.new.rest) c.index-by-j.result c.index-by-j.is
    c.in_ok-others.ensures)

pub returns-clause-worked : goal.returns-clause-worked
returns-clause-worked c = jumped_step c.args.by.now c.args.j c.args.spared.now (split_of c.args.rest.now) (split_of c.leap.new.rest)
    (split_of c.step.new.self) c.index-by-j.result c.in_ok-step.field-0 c.index-by-j.is c.in_ok-others.ensures c.in_ok-step.ensures.step

pub returns-clause-above : goal.returns-clause-above
returns-clause-above c = jumped_front c.args.by.now c.args.j c.args.spared.now (split_of c.args.rest.now) (split_of c.leap.new.rest)
    (split_of c.step.new.self) c.index-by-j.result c.in_ok-step.field-0 c.in_ok-others.ensures c.in_ok-step.ensures.step

pub returns-clause-work : goal.returns-clause-work
returns-clause-work c = jumped_less c.args.by.now c.args.j c.args.spared.now (split_of c.args.rest.now) (split_of c.leap.new.rest)
    (split_of c.step.new.self) c.index-by-j.result c.in_ok-step.field-0 c.index-by-j.is c.in_ok-others.ensures c.in_ok-step.ensures.step

pub returns-in_err-step-clause-cause : goal.returns-in_err-step-clause-cause
returns-in_err-step-clause-cause c =
    let p = err_from_is_err_and c.from_residual-in_err-step.result c.from_residual-in_err-step.ensures.1 in
    rw (p.1, p.2) (jumped_refused c.args.by.now c.args.j c.args.spared.now (split_of c.args.rest.now) (split_of c.leap.new.rest) c.index-by-j.result
    c.in_err-step.field-0.0 c.index-by-j.is c.in_ok-others.ensures c.in_err-step.ensures.cause)
