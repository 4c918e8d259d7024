use Rattle.std.proofs.Common.{◌≡◌, ◌++◌, map, All}
use Rattle.gf_rays.specs.Cones.{RowsAndRays, rows_of}
use Rattle.gf_levels_theory.specs.Generators.{AreOuter}
use Rattle.gf_cuts.proofs.inside.outer_once.Given as goal

abbrev pub invariant-loop-cone : goal.invariant-loop-cone
invariant-loop-cone l = record {
  ambient : All (λ (c : RowsAndRays). c.ambient ≡ l.n) l.kept.items;
  outer : AreOuter l.n (map rows_of l.yielded) (map rows_of l.kept.items);
  whole : l.yielded ++ l.cone-iterator.rest.items ≡ l.fn.cones.items;
}
