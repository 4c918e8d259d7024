use Rattle.std.proofs.Common.{◌<◌, ℕ, ℤ, List, length, All, Contains, arith, refl, sym, subst}
use Rattle.std.specs.List.{AllZip}
use Rattle.std.proofs.lemmas.Result.{IfOk-weaker}
use Rattle.gf_rays.specs.Cones.{RowsAndRays, rows_of}
use Rattle.gf_levels_theory.specs.Parts.{IsTiePart}
use Rattle.gf_cuts.specs.Heights.{row_at, AreZero}
use Rattle.gf_cuts.proofs.TieLaws.{marked_of, even_rows, rows_long, others_inside, kept_points, kept_marks, kept_parts, whole_part}
use Rattle.gf_cuts.proofs.DrawnLaws.{drawn_alone}
use Rattle.gf_cuts.proofs.parts.all_tie_parts.Goals as goal

pub mark_rows-requires-clause-index : goal.mark_rows-requires-clause-index
mark_rows-requires-clause-index c =
    let e = rows_long c.args.cone c.args.points.now c.args.rows.now c.requires.rows in
    let l = c.requires.top in
    omega (arith, e, l)

pub mark_rows-requires-clause-long : goal.mark_rows-requires-clause-long
mark_rows-requires-clause-long c = λ k l.
    let e = rows_long c.args.cone c.args.points.now c.args.rows.now c.requires.rows in
    even_rows c.args.cone c.args.points.now c.args.rows.now k c.args.top (omega (arith, e, l)) c.requires.top c.requires.rows

pub thinned-requires : goal.thinned-requires
thinned-requires c =
    let e = rows_long c.args.cone c.args.points.now c.args.rows.now c.requires.rows in
    let inside = others_inside c.args.rows.now c.in_ok-marks.marks.items c.args.top (length c.args.points.now) c.in_ok-others.others.items c.in_ok-marks.ensures
    (sym e) c.in_ok-others.ensures in
    subst (λ z. All (λ x. x < length z) c.deref-2.result.now) (sym c.deref.ensures.value)
    (subst (All (λ x. x < length c.in_ok-marks.marks.items)) (sym c.deref-2.ensures.value) inside)

pub is_some_zero-requires : goal.is_some_zero-requires
is_some_zero-requires c =
    let A = c.args.points.now in
    let marks = c.in_ok-marks.marks.items in
    let others = c.in_ok-others.others.items in
    let marked = marked_of c.args.cone A c.args.rows.now marks c.deref.result.now c.args.top (length A) others c.deref-2.result.now c.in_ok-kept.kept.items
    c.requires.rays c.requires.wide c.requires.top c.requires.highest c.requires.rows c.in_ok-marks.ensures refl c.in_ok-others.ensures c.deref.ensures.value
    c.deref-2.ensures.value c.in_ok-kept.ensures in
    subst (λ z. All (λ x. x < length z) c.deref-4.result.now) (sym c.deref-3.ensures.value)
    (subst (All (λ x. x < length marks)) (sym c.deref-4.ensures.value)
    (kept_marks c.args.cone A c.args.rows.now marks c.args.top (length A) others c.in_ok-kept.kept.items marked))

pub returns-then-is_some_zero-clause-parts : goal.returns-then-is_some_zero-clause-parts
returns-then-is_some_zero-clause-parts c =
    let A = c.args.points.now in
    let marks = c.in_ok-marks.marks.items in
    let others = c.in_ok-others.others.items in
    let kept = c.in_ok-kept.kept.items in
    let marked = marked_of c.args.cone A c.args.rows.now marks c.deref.result.now c.args.top (length A) others c.deref-2.result.now kept
    c.requires.rays c.requires.wide c.requires.top c.requires.highest c.requires.rows c.in_ok-marks.ensures refl c.in_ok-others.ensures c.deref.ensures.value
    c.deref-2.ensures.value c.in_ok-kept.ensures in
    let z : (y : ℕ) × (Contains kept y × AreZero (row_at marks y)) =
    subst (λ (m : List (List ℤ)). (y : ℕ) × (Contains kept y × AreZero (row_at m y))) c.deref-3.ensures.value
    (subst (λ (k : List ℕ). (y : ℕ) × (Contains k y × AreZero (row_at c.deref-3.result.now y))) c.deref-4.ensures.value
    (c.is_some_zero.ensures c.if-is_some_zero.true)) in
    whole_part c.args.cone A c.args.rows.now marks c.args.top (length A) others kept z.0 c.in_ok-alone.field-0.items marked z.1.0 z.1.1 c.in_ok-alone.ensures

pub tie_parts-requires-clause-indices : goal.tie_parts-requires-clause-indices
tie_parts-requires-clause-indices c =
    let A = c.args.points.now in
    let marks = c.in_ok-marks.marks.items in
    let others = c.in_ok-others.others.items in
    let kept = c.in_ok-kept.kept.items in
    let marked = marked_of c.args.cone A c.args.rows.now marks c.deref.result.now c.args.top (length A) others c.deref-2.result.now kept
    c.requires.rays c.requires.wide c.requires.top c.requires.highest c.requires.rows c.in_ok-marks.ensures refl c.in_ok-others.ensures c.deref.ensures.value
    c.deref-2.ensures.value c.in_ok-kept.ensures in
    subst (All (λ x. x < length A)) (sym c.deref-5.ensures.value)
    (kept_points c.args.cone A c.args.rows.now marks c.args.top (length A) others kept marked)

pub returns-clause-parts : goal.returns-clause-parts
returns-clause-parts c =
    let cone = c.args.cone in
    let A = c.args.points.now in
    let marks = c.in_ok-marks.marks.items in
    let others = c.in_ok-others.others.items in
    let kept = c.in_ok-kept.kept.items in
    let marked = marked_of cone A c.args.rows.now marks c.deref.result.now c.args.top (length A) others c.deref-2.result.now kept
    c.requires.rays c.requires.wide c.requires.top c.requires.highest c.requires.rows c.in_ok-marks.ensures refl c.in_ok-others.ensures c.deref.ensures.value
    c.deref-2.ensures.value c.in_ok-kept.ensures in
    IfOk-weaker c.tie_parts.result _ _
    (λ out s. kept_parts cone A c.args.rows.now marks c.args.top (length A) others kept out.items marked
    (subst (λ (z : List ℕ). AllZip (λ (x : ℕ) (p : RowsAndRays). IsTiePart cone.ambient A c.args.top x (rows_of cone) (rows_of p)) z out.items)
    c.deref-5.ensures.value s)) c.tie_parts.ensures.parts

pub returns-then-is_some_zero-clause-rows : goal.returns-then-is_some_zero-clause-rows
returns-then-is_some_zero-clause-rows c = drawn_alone c.args.points.now c.args.cone c.in_ok-alone.field-0.items c.in_ok-alone.ensures
