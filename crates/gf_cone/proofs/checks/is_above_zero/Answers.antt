use Rattle.std.proofs.Common.{refl}
use Rattle.gf_cone.proofs.CrossingLaws.{above_at}
use Rattle.gf_cone.proofs.checks.is_above_zero.Goals as goal

pub returns-then-none_negative : goal.returns-then-none_negative
returns-then-none_negative c = λ t.
    let p = c.some_positive.ensures t in
    let d = c.args.cone.now in
    above_at d c.kept.result.now c.args.index p.0 c.index-kept-index.result c.as_slice-normal.result.now c.kept.ensures.value c.kept.ensures.widths
    c.kept.ensures.front c.kept.ensures.units c.requires c.index-kept-index.is
    c.as_slice-normal.ensures.value (c.if-none_negative.ensures refl) p.1 p.2
