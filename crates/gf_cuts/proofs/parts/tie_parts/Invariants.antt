use Rattle.std.proofs.Common.{◌≡◌, ℕ, [], ◌∷◌, take, map, All}
use Rattle.std.specs.List.{AllZip}
use Rattle.gf_rays.specs.Cones.{RowsAndRays, rows_of}
use Rattle.gf_levels_theory.specs.Parts.{IsTiePart}
use Rattle.gf_cuts.specs.Drawn.{AreDrawnFrom}
use Rattle.gf_cuts.proofs.parts.tie_parts.Given as goal

abbrev pub invariant-loop-x : goal.invariant-loop-x
invariant-loop-x l = record {
  ambient : All (λ (p : RowsAndRays). p.ambient ≡ l.cone.ambient) l.out.items;
  parts : AllZip (λ (x : ℕ) (p : RowsAndRays). IsTiePart l.cone.ambient l.points l.top x (rows_of l.cone) (rows_of p)) (take l.x-index l.indices) l.out.items;
  rows : AreDrawnFrom l.points (rows_of l.cone ∷ []) (map rows_of l.out.items);
}
