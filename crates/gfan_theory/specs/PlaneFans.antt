-- Fan files of the plane whose vectors have entries 0, 1 and -1: such fans are read, migrated and refined within all limits.
-- Laws: proofs/PlaneRays.antt, proofs/PlaneFiles.antt.
use Rattle.std.specs.Prelude.{◌≡◌, ◌≢◌, ℕ, ◌^◌, ◌≤◌, List, [], length, Contains}
use Rattle.gf_gordan.specs.Sizes.{HaveEntriesUpTo}
use Rattle.gf_fan_files.specs.declared.file.FanFile.{FanFile}
use Rattle.gf_fan_files.specs.Files.{IsFileOf, IsSoundFile, interior_rows}
use Rattle.gf_fan_files.specs.FilesFans.{IsCertifiedFile, AreFileConesMeeting}
use Rattle.gfan_fans.specs.CommonRefinement.{refinement_command}
use Rattle.gfan_fans.specs.MigrateFan.{migrate_fan_command}

-- The text says a fan in the plane, whose rays and lineality vectors have no entries but 0, 1 and -1. Each of its cones is given by at least one ray and at
-- most four. The entries of its interior vectors, if it has any, are at most 2^64.
pub record IsSmallPlaneFan (source : List ℕ) (f : FanFile) : Type 0 where
  pub is_file : IsFileOf source f
  pub sound : IsSoundFile f
  pub certified : IsCertifiedFile f
  pub meeting : AreFileConesMeeting f
  pub plane : f.ambient ≡ 2
  pub rays : HaveEntriesUpTo 1 f.rays
  pub lineality : HaveEntriesUpTo 1 f.lineality
  pub some : (numbers : List ℕ) → Contains f.cones numbers → numbers ≢ []
  pub few : (numbers : List ℕ) → Contains f.cones numbers → length numbers ≤ 4
  pub interiors : HaveEntriesUpTo (2 ^ 64) (interior_rows f.interiors)

-- the premise of completeness of `_migratefan` is met by such a fan
abbrev pub MigrationsOfPlaneFansFit : Type 0
MigrationsOfPlaneFansFit = (source : List ℕ) (f : FanFile) → IsSmallPlaneFan source f → migrate_fan_command.IsWithin source

-- that of `_fancommonrefinement` by two of them
abbrev pub RefinementsOfPlaneFansFit : Type 0
RefinementsOfPlaneFansFit = (first second a b : List ℕ) (f g : FanFile) → IsSmallPlaneFan a f → IsSmallPlaneFan b g →
    (refinement_command first second).IsWithin (a, b)
