use Rattle.std.proofs.Common.{map, take}
use Rattle.gf_rays.specs.Cones.{rows_of}
use Rattle.gf_fan.specs.Pairs.{AreOfAmbient}
use Rattle.gf_patterns_theory.specs.Patterns.{points}
use Rattle.gf_patterns_theory.specs.PatternFans.{IsFanOfPatterns}
use Rattle.gf_tropical.specs.DifferenceRows.{HaveDifferenceRows}
use Rattle.gf_tropical.specs.Kinds.{IsAdmittedBy}
use Rattle.gf_tropical.proofs.levels.all_cut.Given as goal

abbrev pub invariant-cutting : goal.invariant-cutting
invariant-cutting l = record {
  ambient : AreOfAmbient l.n l.cones.items;
  fan : IsFanOfPatterns (IsAdmittedBy l.kind) l.n (map points (take l.i l.set)) (map rows_of l.cones.items);
  rows : HaveDifferenceRows (map points l.set) (map rows_of l.cones.items);
}
