-- The theorems of specs/Laws.antt.
use Rattle.std.proofs.Common.{[]}
use Rattle.gf_int_theory.proofs.ListLaws.{Contains-here}
use Rattle.gf_gordan.specs.Alternative.{GordansAlternative}
use Rattle.gf_patterns_theory.specs.Patterns.{IsOnPrevariety, IsAnywhere}
use Rattle.gf_patterns_theory.proofs.PatternLaws.{on_prevariety, anywhere}
use Rattle.gf_levels_theory.specs.declared.members.Members.TheVariants.{One, Two}
use Rattle.gf_levels_theory.specs.Laws.{LevelsAreOfParts, ProductsTellParts, LevelsAreOfPatterns}
use Rattle.gf_levels_theory.proofs.VertexPoints.{pairs_over, singles_over}
use Rattle.gf_levels_theory.proofs.PatternLevels.{fan_next}
use Rattle.gf_levels_theory.proofs.PartLaws.{parts_level}
use Rattle.gf_levels_theory.proofs.LevelLaws.{level_join, outer_level, single_cuts, pair_cuts}
use Rattle.gf_levels_theory.proofs.ProductLaws.{below_on, tied_too, rays_held}

pub levels_are_of_parts : LevelsAreOfParts
levels_are_of_parts = record { parts = parts_level; joined = level_join; outer = outer_level; singles = single_cuts; pairs = pair_cuts }

pub products_tell_parts : ProductsTellParts
products_tell_parts = record { below = below_on; ties = tied_too; held = rays_held }

pub levels_are_of_patterns : GordansAlternative → LevelsAreOfPatterns
levels_are_of_patterns g = record {
  prevariety = λ n As A B cs ps w d v some more wide f level.
      let o = pairs_over n A B g w d v in
      fan_next IsOnPrevariety Two n As A B cs o.0 ps g on_prevariety o.1.0 o.1.1 wide some more f level;
  minkowski = λ n As A B cs ps w v some more wide f level.
      let b = more A (Contains-here A []) in
      let o = singles_over n A B b.0 g w b.1 v in
      fan_next IsAnywhere One n As A B cs o.0 ps g anywhere o.1.0 o.1.1 wide some more f level;
}
