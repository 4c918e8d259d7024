use Rattle.std.proofs.Common.{refl, sym, subst}
use Rattle.gf_division.specs.NormalForms.{HasSomeWeight}
use Rattle.gf_buchberger.specs.Runs.{state_of}
use Rattle.gf_buchberger.proofs.GeneratorsOfRuns.{entry_variables, left_comparable, if_entry_left}
use Rattle.gf_buchberger.proofs.generators.wide_left.Goals as goal

pub wide_remainder-requires-clause-marked : goal.wide_remainder-requires-clause-marked
wide_remainder-requires-clause-marked c = subst HasSomeWeight (sym c.marked.ensures) c.requires.marked

pub wide_remainder-requires-clause-variables : goal.wide_remainder-requires-clause-variables
wide_remainder-requires-clause-variables c = entry_variables c.args.order.now c.args.run.now.members.items c.marked.result.now c.args.f.now c.args.f.now
    c.marked.ensures refl c.requires.variables

pub left_of_wide-requires : goal.left_of_wide-requires
left_of_wide-requires c = left_comparable c.args.order.now c.args.run.now.members.items c.args.f.now c.args.f.now c.in_ok-r.r refl c.requires.variables
    c.in_ok-r.ensures.variables

pub returns : goal.returns
returns c =
    if_entry_left c.args.order.now
    (state_of c.args.run.now) c.marked.result.now c.args.f.now c.args.f.now c.in_ok-r.r c.left_of_wide.result c.marked.ensures refl c.in_ok-r.ensures.value
    c.in_ok-r.ensures.normal_form c.in_ok-r.ensures.variables c.left_of_wide.ensures
