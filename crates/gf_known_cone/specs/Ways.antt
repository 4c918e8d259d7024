-- Which normals of a cone lead up: a flip may cross the facet, and the normal is negative at a root. Of these the least is the way up.
-- Source: Fukuda, Jensen, Thomas, Computing Gröbner fans, 3 and 4.
use Rattle.std.specs.Prelude.{ℕ, ◌<◌, List, [], ◌∷◌, length, ℤ, Option, Some, None}
use Rattle.gf_gordan.specs.Alternative.{IsSolution}
use Rattle.gf_gordan.specs.declared.error.ConeOverflow.{ConeOverflow}
use Rattle.gf_cone.specs.LexPositive.{IsNegative}
use Rattle.gf_cone.specs.Cones.{ConeRows, normal_at, other_rows}
use Rattle.gf_cone.specs.Answers.{IsNormalStep}
use Rattle.gf_cone.specs.Crossing.{IsCrossable}
use Rattle.gf_known_cone.specs.declared.ways.Way.{Way}

-- a flip may cross the facet of the normal at an index, and the normal is negative at the root r
pub record LeadsUpAt (r : List ℤ) (c : ConeRows) (i : ℕ) : Type 0 where
  pub inside : i < length c.normals
  pub negative : IsNegative r (normal_at c i)
  pub crossable : IsCrossable c i

-- that at an index is the least such normal; normals ascend
pub record IsLeastUp (r : List ℤ) (c : ConeRows) (i : ℕ) : Type 0 where
  pub leads : LeadsUpAt r c i
  pub least : (j : ℕ) → j < i → LeadsUpAt r c j → ⊥

-- the index of the least one, if there is one
abbrev pub IsWayFrom : List ℤ → ConeRows → Option ℕ → Type 0
IsWayFrom r c (Some i) = IsLeastUp r c i
IsWayFrom r c None = (j : ℕ) → LeadsUpAt r c j → ⊥

-- the same, with a vector that shows that a flip may cross its facet
abbrev pub IsWayShown : List ℤ → ConeRows → Option Way → Type 0
IsWayShown r c (Some w) = IsLeastUp r c w.index × IsSolution c.variables (other_rows c w.index) (normal_at c w.index ∷ []) w.witness
IsWayShown r c None = IsWayFrom r c None

-- some such normal is before an index
abbrev pub SomeUpBefore : List ℤ → ConeRows → ℕ → Type 0
SomeUpBefore r c i = (j : ℕ) × (j < i) × LeadsUpAt r c j

-- a step of the system of one of the normals before an index
abbrev pub IsStepBefore : ConeRows → ℕ → ConeOverflow → Type 0
IsStepBefore c i s = (j : ℕ) × (j < i) × IsNormalStep c.variables (other_rows c j) (normal_at c j) s
