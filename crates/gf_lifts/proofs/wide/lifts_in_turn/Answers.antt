use Rattle.std.proofs.Common.{List, sym, subst, Contains}
use Rattle.gf_poly.specs.Marking.{MarkedPolynomial, HaveVariables}
use Rattle.gf_division.specs.NormalForms.{HasSomeWeight}
use Rattle.gf_division.proofs.ReducerLaws.{member_variables}
use Rattle.gf_lifts.specs.LiftsInTurn.{IsRest, IsLessBy}
use Rattle.gf_lifts.proofs.LiftsInTurnLaws.{in_turn_none, in_turn_more, in_turn_weight, rest_there}
use Rattle.gf_lifts.proofs.wide.lifts_in_turn.Goals as goal

pub turns-init : goal.turns-init
turns-init c = in_turn_none c.args.set.now.variables c.args.set.now.items c.args.below.now c.in_ok-done.done.items c.in_ok-done.ensures.items

pub lift_by-requires-clause-weight : goal.lift_by-requires-clause-weight
lift_by-requires-clause-weight c =
    let w = in_turn_weight c.args.set.now.variables c.args.set.now.items c.args.normal.now c.args.below.now c.turns.done.items c.requires.crossing
    c.requires.parts c.turns.invariant.lifts in
    subst HasSomeWeight (sym c.deref.ensures.value) (w.0, w.2)

pub lift_by-requires-clause-variables : goal.lift_by-requires-clause-variables
lift_by-requires-clause-variables c =
    let rest : IsRest c.args.set.now.items c.index-below-i.result c.index-rests-i.result =
    rest_there c.args.set.now.items c.args.below.now c.args.rests.now _ c.index-below-i.result c.index-rests-i.result c.requires.rests c.if-i-below.false
    c.index-below-i.is c.index-rests-i.is in
    record {
      n = c.args.set.now.variables;
      poly = rest.kept.at c.args.set.now.variables (member_variables c.args.set.now.variables c.args.below.now c.index-below-i.result c.requires.variables
          (_, c.if-i-below.false, sym c.index-below-i.is));
      members = subst (HaveVariables c.args.set.now.variables) (sym c.deref.ensures.value) c.turns.invariant.variables;
    }

pub lift_by-requires-clause-kept : goal.lift_by-requires-clause-kept
lift_by-requires-clause-kept c =
    let rest : IsRest c.args.set.now.items c.index-below-i.result c.index-rests-i.result =
    rest_there c.args.set.now.items c.args.below.now c.args.rests.now _ c.index-below-i.result c.index-rests-i.result c.requires.rests c.if-i-below.false
    c.index-below-i.is c.index-rests-i.is in
    rest.kept

pub turns-preserved : goal.turns-preserved
turns-preserved c =
    let rest : IsRest c.args.set.now.items c.index-below-i.result c.index-rests-i.result =
    rest_there c.args.set.now.items c.args.below.now c.args.rests.now _ c.index-below-i.result c.index-rests-i.result c.requires.rests c.if-i-below.false
    c.index-below-i.is c.index-rests-i.is in
    let here : Contains c.args.below.now c.index-below-i.result = (_, c.if-i-below.false, sym c.index-below-i.is) in
    in_turn_more c.args.set.now.variables c.args.set.now.items c.args.below.now c.index-below-i.result c.in_ok-lift.lift c.index-rests-i.result
    c.turns.done.items c.push.new.self.items here rest
    (subst (λ (z : List MarkedPolynomial). IsLessBy z c.index-rests-i.result c.index-below-i.result c.in_ok-lift.lift)
    c.deref.ensures.value c.in_ok-lift.ensures.value)
    (c.in_ok-lift.ensures.variables.at c.args.set.now.variables (member_variables c.args.set.now.variables c.args.below.now c.index-below-i.result
    c.requires.variables here)) c.in_ok-push.ensures.items c.turns.invariant
