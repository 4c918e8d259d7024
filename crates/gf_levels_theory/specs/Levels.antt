-- Levels: each cone of a list cut by all points of a polynomial at once.
use Rattle.std.specs.Prelude.{ℕ, ◌<◌, ◌≡◌, List, ℤ, length, Contains}
use Rattle.gf_duality_theory.specs.Faces.{Rows, SameCone}
use Rattle.gf_fans_theory.specs.Fans.{meet}
use Rattle.gf_patterns_theory.specs.PatternRows.{single_rows, pair_rows}
use Rattle.gf_patterns_theory.specs.Cuts.{IsHeldBy}
use Rattle.gf_levels_theory.specs.declared.members.Members.{Members}
use Rattle.gf_levels_theory.specs.declared.members.Members.TheVariants.{One, Two}

-- the cone of one of the points
pub record IsSingle (A : List (List ℤ)) (d : Rows) : Type 0 where
  pub i : ℕ
  pub inside : i < length A
  pub rows : d ≡ single_rows A i

-- the cone of two of the points
pub record IsPair (A : List (List ℤ)) (d : Rows) : Type 0 where
  pub i : ℕ
  pub j : ℕ
  pub ordered : i < j
  pub inside : j < length A
  pub rows : d ≡ pair_rows A i j

-- the cone of so many of the points
abbrev pub IsConeOf : Members → List (List ℤ) → Rows → Type 0
IsConeOf One = IsSingle
IsConeOf Two = IsPair

-- p is what one of these cones and one of the points' cones share, by whatever rows
pub record IsCutBy (members : Members) (n : ℕ) (A : List (List ℤ)) (cs : List Rows) (p : Rows) : Type 0 where
  pub first : Rows
  pub second : Rows
  pub of_first : Contains cs first
  pub of_second : IsConeOf members A second
  pub same : SameCone n p (meet first second)

-- each part is such, and what any of the cones and any of the points' cones share lies inside one of the parts
pub record IsLevel (members : Members) (n : ℕ) (A : List (List ℤ)) (cs parts : List Rows) : Type 0 where
  pub each : (p : Rows) → Contains parts p → IsCutBy members n A cs p
  pub every : (c d : Rows) → Contains cs c → IsConeOf members A d → (p : Rows) × (Contains parts p × IsHeldBy n (meet c d) p)
