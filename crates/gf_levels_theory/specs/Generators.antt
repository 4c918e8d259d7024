-- What generates a cone without lines, and cones that hold others.
use Rattle.std.specs.Prelude.{ℕ, List, ◌++◌, map, ℤ, Contains}
use Rattle.gf_vec.specs.Vector.{opposite}
use Rattle.gf_duality_theory.specs.Faces.{Rows}
use Rattle.gf_duality_theory.specs.Rays.{IsRays}
use Rattle.gf_patterns_theory.specs.Cuts.{IsHeldBy}

-- the rays, the lineality vectors, and these turned
abbrev pub generators : List (List ℤ) → List (List ℤ) → List (List ℤ)
generators rays lineality = rays ++ (lineality ++ map opposite lineality)

-- these are the rays and the lineality basis of the cone
abbrev pub HasRays : ℕ → Rows → List (List ℤ) → List (List ℤ) → Type 0
HasRays n c lineality rays = IsRays n c.inequalities c.equations lineality rays

-- some of the cones, which hold each of them
pub record AreOuter (n : ℕ) (cones kept : List Rows) : Type 0 where
  pub each : (d : Rows) → Contains kept d → Contains cones d
  pub every : (c : Rows) → Contains cones c → (d : Rows) × (Contains kept d × IsHeldBy n c d)
