use Rattle.std.proofs.Common.{◌≡◌, ◌++◌, map, All}
use Rattle.gf_rays.specs.Cones.{RowsAndRays, rows_of}
use Rattle.gf_levels_theory.specs.Levels.{IsLevel}
use Rattle.gf_cuts.specs.Drawn.{AreDrawnFrom}
use Rattle.gf_cuts.proofs.levels.parts_of_all.Given as goal

abbrev pub invariant-loop-cone : goal.invariant-loop-cone
invariant-loop-cone l = record {
  ambient : All (λ (c : RowsAndRays). c.ambient ≡ l.n) l.out.items;
  level : IsLevel l.members l.n l.points (map rows_of l.yielded) (map rows_of l.out.items);
  rows : AreDrawnFrom l.points (map rows_of l.yielded) (map rows_of l.out.items);
  whole : l.yielded ++ l.cone-iterator.rest.items ≡ l.fn.cones.items;
}
