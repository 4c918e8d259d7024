use Rattle.std.proofs.Common.{◌≡◌, arith, sym, ap, subst, ◌∙◌, List, ℤ, length}
use Rattle.gf_vec.specs.Vector.{vector_sum}
use Rattle.gf_facets_theory.specs.Systems.{unit, units}
use Rattle.gf_cone.proofs.AnswerLaws.{row_read}
use Rattle.gf_cone.proofs.CrossingLaws.{raised_at}
use Rattle.gf_cone.proofs.checks.is_raised_to.Goals as goal

pub returns : goal.returns
returns c = λ t.
    let d = c.args.cone.now in
    raised_at d c.kept-kept.result.now c.args.index c.args.other c.args.at (length c.as_slice.result.now) c.index-kept-index.result c.index-kept-other.result
    c.kept-kept.ensures.value c.kept-kept.ensures.widths c.kept-kept.ensures.front c.requires
    (omega (arith, c.if-other-kept.false)) (omega (arith, c.if-at-variables.false, c.variables.ensures)) c.if-other-index.false
    (subst (λ (z : List ℤ). length z ≡ d.variables) (sym (c.as_slice.ensures.value ∙ c.index-kept-index.is)) (c.kept-kept.ensures.widths c.args.index
    c.index-kept-index.result (omega (arith, c.requires, c.kept-kept.ensures.front))))
    (row_read d c.kept-kept.result.now (units d.variables d.variables) c.args.index c.index-kept-index.result c.requires c.kept-kept.ensures.value
    (omega (arith, c.requires, c.kept-kept.ensures.front)) c.index-kept-index.is)
    c.index-kept-other.is (sym c.as_slice.ensures.value ∙ c.is_raised.ensures t ∙
    ap (λ (z : List ℤ). vector_sum z (unit (length c.as_slice.result.now) c.args.at)) c.as_slice-2.ensures.value)
