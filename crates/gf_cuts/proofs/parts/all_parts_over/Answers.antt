use Rattle.std.proofs.Common.{[], ◌∷◌, get_or, refl}
use Rattle.gf_rays.specs.Cones.{rows_of}
use Rattle.gf_cuts.proofs.LevelLaws.{of_next, all_joined}
use Rattle.gf_cuts.proofs.DrawnLaws.{drawn_joined}
use Rattle.gf_cuts.proofs.parts.all_parts_over.Goals as goal

pub loop-top-preserved : goal.loop-top-preserved
loop-top-preserved c =
    let cone = c.args.cone.now in
    let tops = c.args.tops.now in
    let k = c.loop-top.top-index in
    record {
      ambient = all_joined cone.ambient c.loop-top.out.items c.in_ok-parts.parts.items c.in_ok-out.out.items c.in_ok-out.ensures c.loop-top.invariant.ambient
          c.in_ok-parts.ensures.ambient;
      parts = of_next c.args.members cone.ambient c.args.points.now (rows_of cone) tops (get_or tops k 0) k c.loop-top.out.items c.in_ok-parts.parts.items
          c.in_ok-out.out.items c.loop-top-test.true refl c.in_ok-out.ensures c.in_ok-parts.ensures.parts c.loop-top.invariant.parts;
      rows = drawn_joined c.args.points.now (rows_of cone ∷ []) c.loop-top.out.items c.in_ok-parts.parts.items c.in_ok-out.out.items c.in_ok-out.ensures
          c.loop-top.invariant.rows c.in_ok-parts.ensures.rows;
    }
