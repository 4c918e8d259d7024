use Rattle.std.proofs.Common.{length, sym, ap, subst, ◌∙◌}
use Rattle.gf_strands.specs.Along.{HasNonzero}
use Rattle.gf_lifts.proofs.CrossingMath.{crossing_width, crossing_nonzero, have_at}
use Rattle.gf_flip.proofs.RunSteps.{crossing_at, lifts_under}
use Rattle.gf_flip.proofs.flips.lifts_in_turn.Goals as goal

pub split_parts-requires-clause-variables : goal.split_parts-requires-clause-variables
split_parts-requires-clause-variables c = have_at c.args.set.now.variables (length c.as_slice-normal.result.now) c.args.set.now.items c.items-by.result.now
    c.items-by.ensures.variables c.items-by.ensures.value (ap length c.as_slice-normal.ensures.value ∙ crossing_width c.args.set.now.variables
    c.args.set.now.items c.args.normal.now c.requires.crossing)

pub split_parts-requires-clause-nonzero : goal.split_parts-requires-clause-nonzero
split_parts-requires-clause-nonzero c = subst HasNonzero (sym c.as_slice-normal.ensures.value)
    (crossing_nonzero c.args.set.now.variables c.args.set.now.items c.args.normal.now c.requires.crossing)

pub lifts_of_split-lifts-requires-clause-crossing : goal.lifts_of_split-lifts-requires-clause-crossing
lifts_of_split-lifts-requires-clause-crossing c = crossing_at c.args.set.now.variables c.args.set.now.items c.items-by.result.now c.args.normal.now
    c.as_slice-normal.result.now c.items-by.ensures.value c.as_slice-normal.ensures.value c.requires.crossing

pub returns : goal.returns
returns c = lifts_under c.args.set.now.variables c.args.set.now.items c.items-by.result.now c.args.normal.now c.as_slice-normal.result.now
    c.lifts_of_split-lifts.result c.items-by.ensures.value c.as_slice-normal.ensures.value
    (crossing_width c.args.set.now.variables c.args.set.now.items c.args.normal.now c.requires.crossing) c.lifts_of_split-lifts.ensures
