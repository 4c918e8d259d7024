use Rattle.std.proofs.Common.{◌≡◌, [], ◌∷◌, take, map, All}
use Rattle.gf_rays.specs.Cones.{RowsAndRays, rows_of}
use Rattle.gf_levels_theory.specs.Parts.{AreOfTops}
use Rattle.gf_cuts.specs.Drawn.{AreDrawnFrom}
use Rattle.gf_cuts.proofs.parts.all_parts_over.Given as goal

abbrev pub invariant-loop-top : goal.invariant-loop-top
invariant-loop-top l = record {
  ambient : All (λ (p : RowsAndRays). p.ambient ≡ l.cone.ambient) l.out.items;
  parts : AreOfTops l.members l.cone.ambient l.points (rows_of l.cone) l.tops (take l.top-index l.tops) (map rows_of l.out.items);
  rows : AreDrawnFrom l.points (rows_of l.cone ∷ []) (map rows_of l.out.items);
}
