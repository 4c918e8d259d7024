use Rattle.std.proofs.Common.{arith, ap, length}
use Rattle.gf_groebner_walk.proofs.StepLaws.{leads_more, facet_there, nowhere}
use Rattle.gf_groebner_walk.proofs.steps.facet_towards.Goals as goal

pub returns-then-branch : goal.returns-then-branch
returns-then-branch c = facet_there c.args.weight.now c.args.cone.now c.indices.index c.in_ok-leads.field-0
    (omega (arith, c.indices-test.true, ap length c.normals-index-end.ensures.value)) c.in_ok-leads.ensures c.if-branch.true

pub indices-preserved : goal.indices-preserved
indices-preserved c = leads_more c.args.weight.now c.args.cone.now c.indices.index c.in_ok-leads.field-0 c.in_ok-leads.ensures c.if-branch.false
    c.indices.invariant

pub returns : goal.returns
returns c = nowhere c.args.weight.now c.args.cone.now c.indices.index (omega (arith, c.indices-test.false, ap length c.normals-index-end.ensures.value))
    c.indices.invariant
