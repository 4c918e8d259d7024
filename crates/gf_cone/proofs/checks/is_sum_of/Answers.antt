use Rattle.std.proofs.Common.{arith, sym, ap₂, ◌∙◌}
use Rattle.gf_vec.specs.Vector.{vector_sum}
use Rattle.gf_facets_theory.specs.Systems.{units}
use Rattle.gf_cone.proofs.AnswerLaws.{row_read}
use Rattle.gf_cone.proofs.CrossingLaws.{sum_at}
use Rattle.gf_cone.proofs.checks.is_sum_of.Goals as goal

pub returns : goal.returns
returns c = λ t.
    let d = c.args.cone.now in
    sum_at d c.kept-kept.result.now (units d.variables d.variables) c.args.index c.args.b c.args.c c.index-kept-index.result c.index-kept-b.result
    c.index-kept-c.result c.kept-kept.ensures.value c.kept-kept.ensures.widths c.requires
    (omega (arith, c.if-b-kept.false)) (omega (arith, c.if-c-kept.false)) c.if-b-index.false c.if-c-index.false
    (row_read d c.kept-kept.result.now (units d.variables d.variables) c.args.index c.index-kept-index.result c.requires c.kept-kept.ensures.value
    (omega (arith, c.requires, c.kept-kept.ensures.front)) c.index-kept-index.is)
    c.index-kept-b.is c.index-kept-c.is (sym c.as_slice.ensures.value ∙ c.is_sum.ensures t ∙ ap₂ vector_sum c.as_slice-2.ensures.value
    c.as_slice-3.ensures.value)
