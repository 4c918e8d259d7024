use Rattle.std.proofs.Common.{map}
use Rattle.gf_rays.specs.Cones.{rows_of}
use Rattle.gf_levels_theory.proofs.LevelLaws.{outer_level}
use Rattle.gf_cuts.proofs.DrawnLaws.{drawn_outer}
use Rattle.gf_cuts.proofs.levels.level.Goals as goal

pub returns-clause-level : goal.returns-clause-level
returns-clause-level c = outer_level c.args.members c.args.n c.args.points.now (map rows_of c.args.cones.items) (map rows_of c.in_ok-parts.parts.items)
    (map rows_of c.in_ok-outer.field-0.items) c.in_ok-parts.ensures.level c.in_ok-outer.ensures.outer

pub returns-clause-rows : goal.returns-clause-rows
returns-clause-rows c = drawn_outer c.args.n c.args.points.now (map rows_of c.args.cones.items) (map rows_of c.in_ok-parts.parts.items)
    (map rows_of c.in_ok-outer.field-0.items) c.in_ok-outer.ensures.outer c.in_ok-parts.ensures.rows
