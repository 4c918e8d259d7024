use Rattle.std.proofs.Common.{List, refl, ◌∙◌, subst}
use Rattle.gf_poly.specs.Marking.{MarkedPolynomial}
use Rattle.gf_lifts.specs.LiftsInTurn.{AreLiftsIn}
use Rattle.gf_lifts.proofs.CrossingMath.{crossing_weight, have_at, realisable_at, neighbour_at}
use Rattle.gf_lifts.proofs.LiftsInTurnLaws.{ever_in_turn, placed_variables}
use Rattle.gf_lifts.proofs.wide.wide_crossed.Goals as goal

pub precedence_for-requires : goal.precedence_for-requires
precedence_for-requires c = have_at c.args.set.now.variables c.variables.result c.args.set.now.items c.items.result.now c.items.ensures.variables
    c.items.ensures.value c.variables.ensures

pub rests-requires-clause-marked : goal.rests-requires-clause-marked
rests-requires-clause-marked c = crossing_weight c.args.set.now.variables c.args.set.now.items c.args.normal.now c.requires.crossing

pub autoreduced-requires-clause-variables : goal.autoreduced-requires-clause-variables
autoreduced-requires-clause-variables c = have_at c.args.set.now.variables c.variables-2.result c.in_ok-members.members.items c.in_ok-members.members.items
    (placed_variables c.args.set.now.variables c.in_ok-done.done.items c.args.below.now c.in_ok-members.members.items c.in_ok-done.ensures.variables
    (subst (λ (z : List MarkedPolynomial). AreLiftsIn z c.args.below.now c.in_ok-members.members.items) c.deref-4.ensures.value c.in_ok-members.ensures))
    refl c.variables-2.ensures

pub autoreduced-requires-clause-realisable : goal.autoreduced-requires-clause-realisable
autoreduced-requires-clause-realisable c = realisable_at c.args.set.now.variables c.variables-2.result c.args.set.now.items c.args.normal.now c.args.below.now
    c.in_ok-members.members.items
    (record { variables = c.variables-2.result; items = c.in_ok-members.members.items }) c.requires.crossing c.requires.parts
    (ever_in_turn c.args.set.now.variables c.args.set.now.items c.args.normal.now c.args.below.now c.in_ok-done.done.items c.in_ok-members.members.items
    c.requires.parts c.in_ok-done.ensures.value
    (subst (λ (z : List MarkedPolynomial). AreLiftsIn z c.args.below.now c.in_ok-members.members.items) c.deref-4.ensures.value c.in_ok-members.ensures))
    c.variables-2.ensures refl

pub returns-in-Some-clause-value : goal.returns-in-Some-clause-value
returns-in-Some-clause-value c = neighbour_at c.args.set.now.variables c.variables-2.result c.args.set.now.items c.args.normal.now c.args.below.now
    c.in_ok-members.members.items
    (record { variables = c.variables-2.result; items = c.in_ok-members.members.items }) c.in-Some.across c.requires.crossing c.requires.parts
    (ever_in_turn c.args.set.now.variables c.args.set.now.items c.args.normal.now c.args.below.now c.in_ok-done.done.items c.in_ok-members.members.items
    c.requires.parts c.in_ok-done.ensures.value
    (subst (λ (z : List MarkedPolynomial). AreLiftsIn z c.args.below.now c.in_ok-members.members.items) c.deref-4.ensures.value c.in_ok-members.ensures))
    c.variables-2.ensures refl
    c.in-Some.ensures.value c.in-Some.ensures.arranged

pub returns-in-Some-clause-variables : goal.returns-in-Some-clause-variables
returns-in-Some-clause-variables c = c.in-Some.ensures.value.arranged.variables ∙ c.variables-2.ensures
