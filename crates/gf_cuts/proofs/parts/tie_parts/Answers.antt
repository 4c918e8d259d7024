use Rattle.std.proofs.Common.{ℕ, get_or, refl}
use Rattle.gf_rays.specs.Cones.{RowsAndRays, rows_of}
use Rattle.gf_levels_theory.specs.Parts.{IsTiePart}
use Rattle.gf_cuts.proofs.LoopLaws.{zip_more}
use Rattle.gf_cuts.proofs.OuterLaws.{kept_ambient}
use Rattle.gf_cuts.proofs.DrawnLaws.{drawn_push}
use Rattle.gf_cuts.proofs.parts.tie_parts.Goals as goal

pub loop-x-preserved : goal.loop-x-preserved
loop-x-preserved c =
    let cone = c.args.cone.now in
    let indices = c.args.indices.now in
    let i = c.loop-x.x-index in
    record {
      ambient = kept_ambient cone.ambient c.loop-x.out.items _ c.in_ok-tie_part.field-0 c.in_ok-push.ensures.items c.in_ok-tie_part.ensures.ambient
          c.loop-x.invariant.ambient;
      parts = zip_more (λ (x : ℕ) (p : RowsAndRays). IsTiePart cone.ambient c.args.points.now c.args.top x (rows_of cone) (rows_of p)) indices i
          (get_or indices i 0) 0 c.loop-x.out.items _ c.in_ok-tie_part.field-0 c.loop-x-test.true refl c.in_ok-push.ensures.items
          c.in_ok-tie_part.ensures.part c.loop-x.invariant.parts;
      rows = drawn_push c.args.points.now (rows_of cone) c.loop-x.out.items _ c.in_ok-tie_part.field-0 c.in_ok-push.ensures.items
          c.in_ok-tie_part.ensures.rows c.loop-x.invariant.rows;
    }
