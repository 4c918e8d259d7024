-- Cones of a fan, at some indices, as cones of their own.
use Rattle.std.specs.Prelude.{ℕ, List, ◌⊎◌, ℤ, pos, Contains, length, slice_index_or}
use Rattle.gf_gordan.specs.declared.error.ConeOverflow.{ConeOverflow}
use Rattle.gf_vec.specs.Steps.{dot_steps, IsFirstWide}
use Rattle.gf_vec.specs.declared.error.WideVector.{WideVector}
use Rattle.gf_duality_theory.specs.Faces.{IsInCone}
use Rattle.gf_rays.specs.Cones.{RowsAndRays, rows_of}
use Rattle.gf_rays.specs.Reached.{IsRaysStep}
use Rattle.gf_fan.specs.declared.cones.FanCone.{FanCone}
use Rattle.gf_fan.specs.ConeParts.{HasRowsAndRaysOf}
use Rattle.gf_fan.specs.MaximalCones.{no_cone}
use Rattle.gf_fan.specs.Signs.{AreEach}

-- the cones at these indices, in their order
abbrev pub AreWholeCones : List FanCone → List ℕ → List RowsAndRays → Type 0
AreWholeCones cones indices whole = AreEach (λ k (w : RowsAndRays). HasRowsAndRaysOf w (slice_index_or cones (slice_index_or indices k 0) no_cone).cone)
    (length indices) whole

-- an operation of the system of one of the cones
abbrev pub IsStepOfSome : List FanCone → ConeOverflow → Type 0
IsStepOfSome cones s = (k : FanCone) × (Contains cones k × IsRaysStep k.cone.ambient k.cone.inequalities k.cone.equations s)

-- a vector in one of these cones
abbrev pub IsInOne : List RowsAndRays → List ℤ → Type 0
IsInOne cones v = (c : RowsAndRays) × (Contains cones c × IsInCone (rows_of c) v)

-- an operation of an inequality or equation of one of them on the vector, the first one of their dot product that leaves the range
pub record IsRowStep (cones : List RowsAndRays) (v : List ℤ) (e : WideVector) : Type 0 where
  pub c : RowsAndRays
  pub row : List ℤ
  pub listed : Contains cones c
  pub own : Contains c.inequalities row ⊎ Contains c.equations row
  pub wide : IsFirstWide e (dot_steps (pos 0) row v)
