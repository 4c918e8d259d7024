use Rattle.std.proofs.lemmas.Result.{err_from_is_err_and}
use Rattle.gf_division.specs.Dividends.{split_of}
use Rattle.gf_division.proofs.IndexLaws.{placed, placed_shares, placed_divides, placed_step, placed_gone, placed_variables, placed_descends, placed_refused}
use Rattle.gf_division.proofs.steps.reduce_step.Goals as goal

pub step-requires-clause-variables : goal.step-requires-clause-variables
step-requires-clause-variables c =
    let k = placed c.args.f.now c.in_ok-copy.field-0 c.args.at.now (split_of c.new-rest.result) (split_of c.descend.new.self)
    c.in_ok-descend.field-0 c.in_ok-copy.ensures c.new-rest.ensures.value c.new-rest.ensures.descending c.requires.variables c.requires.there
    c.in_ok-descend.ensures in
    placed_shares c.args.f.now c.args.at.now (split_of c.descend.new.self) c.args.by.now k c.requires.member

pub step-requires-clause-divides : goal.step-requires-clause-divides
step-requires-clause-divides c =
    let k = placed c.args.f.now c.in_ok-copy.field-0 c.args.at.now (split_of c.new-rest.result) (split_of c.descend.new.self)
    c.in_ok-descend.field-0 c.in_ok-copy.ensures c.new-rest.ensures.value c.new-rest.ensures.descending c.requires.variables c.requires.there
    c.in_ok-descend.ensures in
    placed_divides c.args.f.now c.args.at.now (split_of c.descend.new.self) c.args.by.now.head k c.requires.divides

pub returns-in_err-step-clause-cause : goal.returns-in_err-step-clause-cause
returns-in_err-step-clause-cause c =
    let k = placed c.args.f.now c.in_ok-copy.field-0 c.args.at.now (split_of c.new-rest.result) (split_of c.descend.new.self)
    c.in_ok-descend.field-0 c.in_ok-copy.ensures c.new-rest.ensures.value c.new-rest.ensures.descending c.requires.variables c.requires.there
    c.in_ok-descend.ensures in
    let p = err_from_is_err_and c.from_residual-in_err-step.result c.from_residual-in_err-step.ensures.1 in
    rw (p.1, p.2) (placed_refused c.args.f.now c.args.at.now (split_of c.descend.new.self) c.args.by.now c.in_err-step.field-0.0 k c.in_err-step.ensures.cause)

pub into_poly-requires : goal.into_poly-requires
into_poly-requires c =
    let k = placed c.args.f.now c.in_ok-copy.field-0 c.args.at.now (split_of c.new-rest.result) (split_of c.descend.new.self)
    c.in_ok-descend.field-0 c.in_ok-copy.ensures c.new-rest.ensures.value c.new-rest.ensures.descending c.requires.variables c.requires.there
    c.in_ok-descend.ensures in
    placed_descends c.args.f.now c.args.at.now (split_of c.descend.new.self) (split_of c.step.new.self) c.args.by.now c.in_ok-step.field-0 k
    c.in_ok-step.ensures.step

pub returns-clause-step : goal.returns-clause-step
returns-clause-step c =
    let k = placed c.args.f.now c.in_ok-copy.field-0 c.args.at.now (split_of c.new-rest.result) (split_of c.descend.new.self)
    c.in_ok-descend.field-0 c.in_ok-copy.ensures c.new-rest.ensures.value c.new-rest.ensures.descending c.requires.variables c.requires.there
    c.in_ok-descend.ensures in
    placed_step c.args.f.now c.args.at.now (split_of c.descend.new.self) (split_of c.step.new.self) c.args.by.now c.in_ok-step.field-0 c.in_ok-into_poly.field-0
    k c.in_ok-step.ensures.step c.in_ok-into_poly.ensures

pub returns-clause-gone : goal.returns-clause-gone
returns-clause-gone c =
    let k = placed c.args.f.now c.in_ok-copy.field-0 c.args.at.now (split_of c.new-rest.result) (split_of c.descend.new.self)
    c.in_ok-descend.field-0 c.in_ok-copy.ensures c.new-rest.ensures.value c.new-rest.ensures.descending c.requires.variables c.requires.there
    c.in_ok-descend.ensures in
    placed_gone c.args.f.now c.in_ok-into_poly.field-0 c.args.at.now c.args.by.now c.requires.monic
    (placed_step c.args.f.now c.args.at.now (split_of c.descend.new.self) (split_of c.step.new.self) c.args.by.now c.in_ok-step.field-0
    c.in_ok-into_poly.field-0 k c.in_ok-step.ensures.step c.in_ok-into_poly.ensures)

pub returns-clause-variables : goal.returns-clause-variables
returns-clause-variables c =
    let k = placed c.args.f.now c.in_ok-copy.field-0 c.args.at.now (split_of c.new-rest.result) (split_of c.descend.new.self)
    c.in_ok-descend.field-0 c.in_ok-copy.ensures c.new-rest.ensures.value c.new-rest.ensures.descending c.requires.variables c.requires.there
    c.in_ok-descend.ensures in
    placed_variables c.args.f.now c.args.at.now (split_of c.descend.new.self) (split_of c.step.new.self) c.args.by.now c.in_ok-step.field-0
    c.in_ok-into_poly.field-0 k c.in_ok-step.ensures.step c.in_ok-into_poly.ensures
