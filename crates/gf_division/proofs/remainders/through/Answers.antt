use Rattle.std.proofs.Common.{subst}
use Rattle.gf_division.specs.Dividends.{Split, joined_terms}
use Rattle.gf_division.specs.Tables.{table_of, StepsFrom}
use Rattle.gf_division.proofs.RemainderLaws.{worked-none}
use Rattle.gf_division.proofs.TableLaws.{stepped, less_stepped}
use Rattle.gf_division.proofs.remainders.through.Goals as goal

pub steps-init : goal.steps-init
steps-init c = worked-none c.args.by.now c.args.spared.now (table_of c.args.table.now) c.requires.variables

pub steps-smaller : goal.steps-smaller
steps-smaller c =
    let h = subst (λ (s : Split). StepsFrom c.index-by-j.result (joined_terms s) c.in-Some.t (table_of c.step.new.self))
    c.next_in.ensures.same c.in_ok-step.ensures.step in
    less_stepped c.args.by.now c.args.spared.now c.requires.marked.0 (table_of c.steps.table) (table_of c.step.new.self)
    c.in-Some.t c.in-Some.j c.index-by-j.result c.index-by-j.is c.requires.marked.1 c.steps.invariant.variables c.in-Some.ensures.found h

pub steps-preserved : goal.steps-preserved
steps-preserved c =
    let h = subst (λ (s : Split). StepsFrom c.index-by-j.result (joined_terms s) c.in-Some.t (table_of c.step.new.self))
    c.next_in.ensures.same c.in_ok-step.ensures.step in
    stepped c.args.by.now c.args.spared.now (table_of c.args.table.now) (table_of c.steps.table) (table_of c.step.new.self)
    c.in-Some.t c.in-Some.j c.index-by-j.result c.index-by-j.is c.in-Some.ensures.found h c.steps.invariant
