use Rattle.std.proofs.Common.{IfSome, sym, subst}
use Rattle.gf_poly.specs.Marking.{MarkedPolynomial}
use Rattle.gf_lifts.specs.Tops.{IsQuotientAt}
use Rattle.gf_flip.proofs.ChosenLaws.{if_origin_lifted, if_origin_variables, if_twin_lifted, twin_monic}
use Rattle.gf_flip.proofs.chosen.lift.Goals as goal

pub returns-in-Some-clause-value : goal.returns-in-Some-clause-value
returns-in-Some-clause-value c = if_origin_lifted c.args.ground.now.by.now c.args.ground.now.normal.now c.args.strand.now c.in-Some.index
    c.index-ground-index.result c.divided_at.result c.requires.ground.nonzero c.requires.marked c.requires.strand c.in-Some.is c.index-ground-index.is
    (subst (λ (z : MarkedPolynomial). IfSome c.divided_at.result (IsQuotientAt z c.args.strand.now.mark)) (sym c.index-ground-index.is) c.divided_at.ensures)

pub returns-in-Some-clause-variables : goal.returns-in-Some-clause-variables
returns-in-Some-clause-variables c = if_origin_variables _ c.args.ground.now.by.now c.args.ground.now.normal.now c.args.strand.now c.in-Some.index
    c.index-ground-index.result c.divided_at.result c.requires.set c.requires.strand c.in-Some.is c.index-ground-index.is
    (subst (λ (z : MarkedPolynomial). IfSome c.divided_at.result (IsQuotientAt z c.args.strand.now.mark)) (sym c.index-ground-index.is) c.divided_at.ensures)

pub top_lift-requires-clause-monic : goal.top_lift-requires-clause-monic
top_lift-requires-clause-monic c = twin_monic c.args.ground.now.normal.now c.args.strand.now c.in_ok-member.member c.requires.ground.nonzero c.requires.strand.0
    c.in_ok-member.ensures.twin c.in_ok-member.ensures.head

pub returns-clause-value : goal.returns-clause-value
returns-clause-value c = if_twin_lifted c.args.ground.now.by.now c.args.ground.now.normal.now c.args.strand.now c.in_ok-member.member c.top_lift.result
    c.in_ok-member.ensures.twin c.in_ok-member.ensures.head c.top_lift.ensures.value
