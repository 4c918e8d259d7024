use Rattle.std.proofs.Common.{refl, ap, ◌∙◌}
use Rattle.gf_lifts.proofs.LiftTailLaws.{copies-length}
use Rattle.gf_lifts.proofs.CrossingMath.{have_at}
use Rattle.gf_flip.proofs.FlipSteps.{lifts_weight, ended_variables, ended_neighbour}
use Rattle.gf_flip.proofs.RunSteps.{ending_of}
use Rattle.gf_flip.proofs.flips.across.Goals as goal

pub reduced_tails-requires-clause-marked : goal.reduced_tails-requires-clause-marked
reduced_tails-requires-clause-marked c = lifts_weight c.args.set.now.variables c.args.set.now.items c.args.set.now.items c.args.normal.now c.args.normal.now
    c.requires.lifts.basis c.args.lifts.members.items c.requires.crossing c.requires.lifts.parts refl refl c.requires.lifts.tops

pub reduced_tails-requires-clause-flags : goal.reduced_tails-requires-clause-flags
reduced_tails-requires-clause-flags c = copies-length c.args.set.now.items c.args.lifts.members.items c.args.lifts.copied.items c.requires.lifts.copies

pub reduced_tails-requires-clause-variables : goal.reduced_tails-requires-clause-variables
reduced_tails-requires-clause-variables c = have_at c.args.set.now.variables c.variables-n.result c.args.lifts.members.items c.args.lifts.members.items
    c.requires.lifts.variables refl c.variables-n.ensures

pub new-all-requires : goal.new-all-requires
new-all-requires c = ended_variables c.args.set.now.variables c.variables-n.result c.args.set.now.items c.args.normal.now c.requires.lifts.basis
    c.in_ok-members.members.items c.variables-n.ensures (ending_of c.args.set.now.variables c.args.set.now.items c.args.normal.now c.args.lifts.members.items
    c.args.lifts.copied.items c.in_ok-members.members.items c.requires.crossing c.requires.lifts c.in_ok-members.ensures)

pub returns-in-Ok-clause-value : goal.returns-in-Ok-clause-value
returns-in-Ok-clause-value c = ended_neighbour c.args.set.now.variables c.variables-n.result c.args.set.now.items c.args.normal.now c.requires.lifts.basis
    c.in_ok-members.members.items c.new-all.result c.in-Ok.across c.requires.crossing c.requires.lifts.parts c.variables-n.ensures
    (ending_of c.args.set.now.variables c.args.set.now.items c.args.normal.now c.args.lifts.members.items c.args.lifts.copied.items
    c.in_ok-members.members.items c.requires.crossing c.requires.lifts c.in_ok-members.ensures) c.new-all.ensures c.in-Ok.ensures

pub returns-in-Ok-clause-variables : goal.returns-in-Ok-clause-variables
returns-in-Ok-clause-variables c = c.in-Ok.ensures.variables ∙ ap (λ z. z.variables) c.new-all.ensures ∙ c.variables-n.ensures
