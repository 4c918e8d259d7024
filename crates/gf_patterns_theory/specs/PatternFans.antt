-- Lists of cones by rows whose faces are a prevariety or a Minkowski fan.
use Rattle.std.specs.Prelude.{ℕ, List, [], ℤ}
use Rattle.gf_duality_theory.specs.Faces.{Rows}
use Rattle.gf_fans_theory.specs.Fans.{MeetPairwise}
use Rattle.gf_patterns_theory.specs.Refinements.{HaveEntries}
use Rattle.gf_patterns_theory.specs.Patterns.{ArePatternCones, IsOnPrevariety, IsAnywhere}

-- the whole space: no rows
abbrev pub whole_space : Rows
whole_space = record { inequalities = []; equations = [] }

-- any two of the cones meet in faces, and all faces are exactly the closed cones of the vectors that are admitted
pub record IsFanOfPatterns (Admitted : List (List (List ℤ)) → List ℤ → Type 0) (n : ℕ) (As : List (List (List ℤ))) (cones : List Rows) : Type 0 where
  pub width : HaveEntries n cones
  pub fan : MeetPairwise n cones
  pub patterns : ArePatternCones Admitted n As cones

-- a list of cones for the prevariety
abbrev pub IsPrevarietyList : ℕ → List (List (List ℤ)) → List Rows → Type 0
IsPrevarietyList = IsFanOfPatterns IsOnPrevariety

-- a list of cones for the Minkowski fan
abbrev pub IsMinkowskiList : ℕ → List (List (List ℤ)) → List Rows → Type 0
IsMinkowskiList = IsFanOfPatterns IsAnywhere
