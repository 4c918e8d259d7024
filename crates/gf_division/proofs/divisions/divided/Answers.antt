use Rattle.std.proofs.Common.{refl, subst}
use Rattle.std.proofs.lemmas.Result.{err_from_is_err_and}
use Rattle.std.specs.Prelude.{None}
use Rattle.gf_division.specs.Dividends.{split_of}
use Rattle.gf_division.specs.Divisions.{lists_of}
use Rattle.gf_division.specs.Reducers.{IsSought}
use Rattle.gf_division.proofs.RuleLaws.{found_shares, found_divides}
use Rattle.gf_division.proofs.NormalFormLaws.{found_facts, less_left, rule_refused, normal_form_at}
use Rattle.gf_division.proofs.DivisionLaws.{dividing-none, dividing-more}
use Rattle.gf_division.proofs.divisions.divided.Goals as goal

pub steps-init : goal.steps-init
steps-init c = dividing-none c.args.by.now c.args.f (split_of c.new-rest.result) (lists_of c.in_ok-lists.lists.items)
    _ c.requires.variables c.new-rest.ensures.descending c.new-rest.ensures.value refl c.in_ok-lists.ensures

pub step-requires-clause-variables : goal.step-requires-clause-variables
step-requires-clause-variables c =
    let k = found_facts c.args.by.now None (split_of c.steps.rest) (split_of c.seek.new.rest) c.in_ok-j.field-0 c.in-Some.j c.index-by-j.result c.in-Some.is
    c.index-by-j.is c.steps.invariant.form.variables c.in_ok-j.ensures.same c.in_ok-j.ensures.above c.in_ok-j.ensures.found in
    found_shares _ _ (split_of c.seek.new.rest) _ c.index-by-j.result k.found

pub step-requires-clause-divides : goal.step-requires-clause-divides
step-requires-clause-divides c =
    let k = found_facts c.args.by.now None (split_of c.steps.rest) (split_of c.seek.new.rest) c.in_ok-j.field-0 c.in-Some.j c.index-by-j.result c.in-Some.is
    c.index-by-j.is c.steps.invariant.form.variables c.in_ok-j.ensures.same c.in_ok-j.ensures.above c.in_ok-j.ensures.found in
    found_divides _ _ (split_of c.seek.new.rest) _ c.index-by-j.result k.found

pub returns-in_err-quotient-clause-cause : goal.returns-in_err-quotient-clause-cause
returns-in_err-quotient-clause-cause c =
    let k = found_facts c.args.by.now None (split_of c.steps.rest) (split_of c.seek.new.rest) c.in_ok-j.field-0 c.in-Some.j c.index-by-j.result c.in-Some.is
    c.index-by-j.is c.steps.invariant.form.variables c.in_ok-j.ensures.same c.in_ok-j.ensures.above c.in_ok-j.ensures.found in
    let p = err_from_is_err_and c.from_residual-in_err-quotient.result c.from_residual-in_err-quotient.ensures.1 in
    rw (p.1, p.2) (rule_refused c.args.by.now c.args.f (split_of c.steps.rest) (split_of c.seek.new.rest) c.in-Some.j c.index-by-j.result
    c.in_err-quotient.field-0.0 c.in_ok-j.ensures.same k c.steps.invariant.form c.in_err-quotient.ensures.cause)

pub steps-smaller : goal.steps-smaller
steps-smaller c =
    let k = found_facts c.args.by.now None (split_of c.steps.rest) (split_of c.seek.new.rest) c.in_ok-j.field-0 c.in-Some.j c.index-by-j.result c.in-Some.is
    c.index-by-j.is c.steps.invariant.form.variables c.in_ok-j.ensures.same c.in_ok-j.ensures.above c.in_ok-j.ensures.found in
    less_left c.args.by.now None c.requires.marked.0 (split_of c.steps.rest) (split_of c.seek.new.rest) (split_of c.step.new.self)
    c.in-Some.j c.index-by-j.result c.in_ok-quotient.quotient c.in_ok-j.ensures.same c.requires.marked.1 k c.in_ok-quotient.ensures.step

pub steps-preserved : goal.steps-preserved
steps-preserved c =
    let k = found_facts c.args.by.now None (split_of c.steps.rest) (split_of c.seek.new.rest) c.in_ok-j.field-0 c.in-Some.j c.index-by-j.result c.in-Some.is
    c.index-by-j.is c.steps.invariant.form.variables c.in_ok-j.ensures.same c.in_ok-j.ensures.above c.in_ok-j.ensures.found in
    dividing-more c.args.by.now c.args.f (split_of c.steps.rest) (split_of c.seek.new.rest) (split_of c.step.new.self) (lists_of c.steps.lists.items)
    (lists_of c.add_quotient.new.lists.items) c.in-Some.j c.index-by-j.result c.in_ok-quotient.quotient c.in_ok-j.ensures.same k
    c.in_ok-quotient.ensures.step c.in_ok-add_quotient.ensures c.steps.invariant

pub returns-clause-remainder : goal.returns-clause-remainder
returns-clause-remainder c = normal_form_at c.args.by.now c.args.f c.in_ok-into_poly.field-0 (split_of c.steps.rest) (split_of c.seek.new.rest)
    c.in_ok-j.ensures.same (subst (IsSought c.args.by.now None (split_of c.seek.new.rest)) c.in_default.is c.in_ok-j.ensures.found)
    c.in_ok-into_poly.ensures c.in_ok-j.ensures.above c.steps.invariant.form
