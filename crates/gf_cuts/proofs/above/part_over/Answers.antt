use Rattle.std.proofs.Common.{sym, subst}
use Rattle.gf_gordan.specs.Alternative.{AreRows}
use Rattle.gf_rays.specs.Cones.{rows_of}
use Rattle.gf_cuts.proofs.AboveLaws.{part_by}
use Rattle.gf_cuts.proofs.DrawnLaws.{drawn_over}
use Rattle.gf_cuts.proofs.above.part_over.Goals as goal

pub rows_over-requires-clause-wide : goal.rows_over-requires-clause-wide
rows_over-requires-clause-wide c = (c.args.cone.now.ambient, c.requires.wide)

pub with_more-requires : goal.with_more-requires
with_more-requires c = subst (AreRows c.args.cone.now.ambient) (sym c.deref.ensures.value)
    (c.in_ok-rows.ensures.wide c.args.cone.now.ambient c.requires.wide)

pub returns-clause-part : goal.returns-clause-part
returns-clause-part c =
    let e = c.in_ok-with_more.ensures.rows in
    part_by c.args.cone.now.ambient c.args.points.now c.args.top c.args.indices.now (rows_of c.args.cone.now) (rows_of c.in_ok-with_more.field-0)
    c.in_ok-rows.rows.items c.deref.result.now c.in_ok-rows.ensures.says c.deref.ensures.value e.1 e.2

pub returns-clause-rows : goal.returns-clause-rows
returns-clause-rows c =
    let e = c.in_ok-with_more.ensures.rows in
    drawn_over c.args.points.now (rows_of c.args.cone.now) (rows_of c.in_ok-with_more.field-0) c.in_ok-rows.rows.items c.deref.result.now
    c.in_ok-rows.ensures.drawn c.deref.ensures.value e.1 e.2
