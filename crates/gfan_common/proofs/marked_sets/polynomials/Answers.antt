use Rattle.std.proofs.Common.{◌≡◌, ◌∙◌, arith, length, sym, ap, subst}
use Rattle.std.proofs.lemmas.List.{take_all}
use Rattle.gf_poly.specs.Marking.{HaveVariables, polys}
use Rattle.gfan_common.proofs.PolynomialListLaws.{polynomials-more}
use Rattle.gfan_common.proofs.marked_sets.polynomials.Goals as goal

pub members-preserved : goal.members-preserved
members-preserved c =
    let same : c.in_ok-f.f ≡ c.b-item.result.poly = c.in_ok-f.ensures ∙ c.poly.ensures in
    polynomials-more c.args.set.now.variables c.items-items.result.now c.members.found.items c.push.new.self.items c.members.b-index c.b-item.result c.in_ok-f.f
    (subst (HaveVariables c.args.set.now.variables) (sym c.items-items.ensures.value) c.items-items.ensures.variables) c.members-test.true c.b-item.is same
    (omega (arith, c.head.ensures.marked.term.1, ap length same)) c.in_ok-push.ensures.items c.members.invariant

pub returns-clause-value : goal.returns-clause-value
returns-clause-value c = c.members.invariant.value ∙ ap polys (take_all c.members.b-index c.items-items.result.now c.members-test.false ∙
    c.items-items.ensures.value)

pub returns-clause-some : goal.returns-clause-some
returns-clause-some c = c.members.invariant.some

pub returns-clause-variables : goal.returns-clause-variables
returns-clause-variables c = c.members.invariant.variables
