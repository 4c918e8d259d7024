use Rattle.std.proofs.Common.{get_or, rules, sym, ap, ◌∙◌, w32, FitsSigned}
use Rattle.std.proofs.lemmas.Int.{to_z-of_z}
use Rattle.gf_strands.specs.declared.strands.Point.{Point}
use Rattle.gf_strands.specs.Strands.{moved}
use Rattle.gf_strands.proofs.StrandMarks.{left_none, left_more, left_end, moved_width}
use Rattle.gf_strands.proofs.forms.are_left.Goals as goal

pub points-init : goal.points-init
points-init c = left_none c.args.normal.now c.args.base.now c.args.strands.now c.args.from c.args.points.now

pub is_left-requires : goal.is_left-requires
is_left-requires c = moved_width c.args.normal.now c.args.base.now c.args.strands.now _ c.in-Some.x c.requires.base c.requires.strands c.in-Some.ensures.value

pub points-preserved : goal.points-preserved
points-preserved c =
    let fits : FitsSigned w32 (get_or c.args.points.now c.points.i c.index-points-i.result).k = search rules in
    left_more c.args.normal.now c.args.base.now c.args.strands.now c.args.from c.args.points.now c.points.i c.index-points-i.result c.in-Some.x
    c.points-test.true
    c.index-points-i.is
    (c.in-Some.ensures.value ∙ ap (moved c.args.normal.now c.args.base.now) (to_z-of_z w32 _ fits ∙ ap (λ (p : Point). p.k) (sym c.index-points-i.is)))
    (c.is_left.ensures.left c.if-not-is_left.false) c.points.invariant

pub returns : goal.returns
returns c = λ _. left_end c.args.normal.now c.args.base.now c.args.strands.now c.args.from c.args.points.now c.points.i c.points-test.false c.points.invariant
