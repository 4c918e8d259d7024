-- By which rows the maximal cones of fans of polynomials are given: each row is a difference of two exponents of one polynomial.
use Rattle.std.specs.Prelude.{List, ℤ, Contains}
use Rattle.gf_duality_theory.specs.Faces.{Rows}
use Rattle.gf_rays.specs.Cones.{rows_of}
use Rattle.gf_cuts.specs.Drawn.{IsDifferenceOf, HasRow}
use Rattle.gf_fan.specs.declared.cones.FanCone.{FanCone}
use Rattle.gf_fan.specs.FanLists.{FanLists}
use Rattle.gf_fan.specs.MaximalCones.{maximal_of}

-- h is the difference of two exponents of one of the polynomials
pub record IsDifferenceIn (As : List (List (List ℤ))) (h : List ℤ) : Type 0 where
  pub of : List (List ℤ)
  pub listed : Contains As of
  pub difference : IsDifferenceOf of h

-- so is each row
abbrev pub HasDifferenceRows : List (List (List ℤ)) → Rows → Type 0
HasDifferenceRows As c = (h : List ℤ) → HasRow c h → IsDifferenceIn As h

-- so of each of the cones
pub record HaveDifferenceRows (As : List (List (List ℤ))) (cs : List Rows) : Type 0 where
  pub each : (c : Rows) → Contains cs c → HasDifferenceRows As c

-- so of each maximal cone of the fan
pub record IsByDifferences (As : List (List (List ℤ))) (h : FanLists) : Type 0 where
  pub each : (k : FanCone) → Contains (maximal_of h) k → HasDifferenceRows As (rows_of k.cone)
