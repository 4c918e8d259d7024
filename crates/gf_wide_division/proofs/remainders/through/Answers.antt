use Rattle.gf_division.proofs.RemainderLaws.{worked-none}
use Rattle.gf_division.proofs.TableLaws.{stepped, less_stepped}
use Rattle.gf_wide_division.specs.Dividends.{dividend_of}
use Rattle.gf_wide_division.specs.Values.{term_value}
use Rattle.gf_wide_division.proofs.RemainderLaws.{shares_there, divides_there}
use Rattle.gf_wide_division.proofs.remainders.through.Goals as goal

pub steps-init : goal.steps-init
steps-init c = worked-none c.args.by.now c.args.spared.now (dividend_of c.args.rest.now) c.requires.variables

pub step-requires-clause-variables : goal.step-requires-clause-variables
step-requires-clause-variables c = shares_there c.args.by.now c.args.spared.now (dividend_of c.steps.rest) (term_value c.in-Some.t)
    c.in-Some.j c.index-by-j.result c.index-by-j.is c.steps.invariant.variables c.in-Some.ensures

pub step-requires-clause-divides : goal.step-requires-clause-divides
step-requires-clause-divides c = divides_there c.args.by.now c.args.spared.now _ (term_value c.in-Some.t) c.in-Some.j c.index-by-j.result c.index-by-j.is
    c.in-Some.ensures

pub steps-smaller : goal.steps-smaller
steps-smaller c = less_stepped c.args.by.now c.args.spared.now c.requires.marked.0 (dividend_of c.steps.rest) (dividend_of c.step.new.self)
    (term_value c.in-Some.t) c.in-Some.j c.index-by-j.result c.index-by-j.is c.requires.marked.1 c.steps.invariant.variables c.in-Some.ensures
    c.in_ok-step.ensures

pub steps-preserved : goal.steps-preserved
steps-preserved c = stepped c.args.by.now c.args.spared.now (dividend_of c.args.rest.now) (dividend_of c.steps.rest) (dividend_of c.step.new.self)
    (term_value c.in-Some.t) c.in-Some.j c.index-by-j.result c.index-by-j.is c.in-Some.ensures c.in_ok-step.ensures c.steps.invariant
