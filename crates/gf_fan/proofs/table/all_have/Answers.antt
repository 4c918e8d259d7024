use Rattle.std.proofs.Common.{◌≡◌, ◌∙◌, sym, rules, IsTrue}
use Rattle.gf_rays.specs.Cones.{RowsAndRays}
use Rattle.gf_fan.proofs.SettledLaws.{all_more, all_done}
use Rattle.gf_fan.proofs.table.all_have.Goals as goal

pub loop-c-preserved : goal.loop-c-preserved
loop-c-preserved c =
    let t : IsTrue c.same_vectors.result = search rules in
    all_more (λ (z : RowsAndRays). z.lineality ≡ c.args.lineality.now) c.args.cones.now c.loop-c.c-index c.c-item.result c.loop-c-test.true c.c-item.is
    (sym c.lineality.ensures.value ∙ c.same_vectors.ensures.0 t) c.loop-c.invariant

pub returns : goal.returns
returns c = λ t. all_done (λ (z : RowsAndRays). z.lineality ≡ c.args.lineality.now) c.args.cones.now c.loop-c.c-index c.loop-c-test.false c.loop-c.invariant
