use Rattle.std.proofs.Common.{arith, refl}
use Rattle.gf_cone.proofs.SpanLaws.{rows_wide, not_crossable_spanned}
use Rattle.gf_cone.proofs.spans.is_spanned.Goals as goal

pub returns : goal.returns
returns c = λ t. not_crossable_spanned c.args.cone.now c.args.index c.args.span.now
    (rows_wide c.args.cone.now c.kept.result.now c.kept.ensures.value c.kept.ensures.widths) c.requires
    (c.if-not-is_share.ensures refl) (c.if-not-is_share-2.ensures refl) (c.if-not-is_share-3.ensures refl) (c.if-not-is_some_positive.ensures refl)
    (λ j l. c.entries.invariant j (omega (arith, l, c.variables-n.ensures, c.entries-test.false)))
