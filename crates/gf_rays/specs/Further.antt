-- A double description that goes on from the rays of a cone: its states, row by row, and its operations.
use Rattle.std.specs.Prelude.{◌≡◌, ℕ, ◌+◌, List, [], ◌∷◌, ◌++◌, ℤ, pos, length, All, Contains, remove}
use Rattle.gf_vec.specs.Vector.{dot}
use Rattle.gf_gordan.specs.declared.error.ConeOverflow.{ConeOverflow}
use Rattle.gf_duality_theory.specs.Rays.{IsZeroOn}
use Rattle.gf_duality_theory.specs.Elimination.{IsEliminationStep}
use Rattle.gf_duality_theory.specs.Straightening.{IsOrthogonalized, IsStraightening, IsOrthogonalizing}
use Rattle.gf_rays.specs.declared.ray.Ray.{Ray}
use Rattle.gf_rays.specs.MarkedRays.{IsMarkedRay, IsPruned, vectors_of}
use Rattle.gf_rays.specs.Splitting.{IsSplit}
use Rattle.gf_rays.specs.Leveling.{IsLine, IsLinedBy, IsRowStep}
use Rattle.gf_rays.specs.Reached.{NoneInside, AreChosen}
use Rattle.gf_rays.specs.Cones.{RowsAndRays}

-- the lineality vectors and rays that one inequality behind so many makes of these: where it is zero on the lineality vectors it splits
-- the rays, and those inside another one go; else all is brought along a lineality vector on which it isn't
pub data IsTaken (h : List ℤ) (count : ℕ) (lin : List (List ℤ)) (rays : List Ray) : List (List ℤ) → List Ray → Type 0 where
  by_split : (middle out : List Ray) → All (λ x. dot h x ≡ pos 0) lin → IsSplit h rays middle → IsPruned middle out → NoneInside out →
      IsTaken h count lin rays lin out
  by_line : (i : ℕ) (l : List ℤ) (lines : List (List ℤ)) (next : List Ray) → IsLine h lin i l → IsLinedBy h l (remove lin i) rays count lines next →
      IsTaken h count lin rays lines next

-- the lineality vectors and rays after these inequalities, behind so many: at first a basis and some rays
pub data IsFurtherState (count : ℕ) (basis : List (List ℤ)) (start : List Ray) : List (List ℤ) → List (List ℤ) → List Ray → Type 0 where
  begun : IsFurtherState count basis start [] basis start
  taken : (more lin lines : List (List ℤ)) (rays next : List Ray) (h : List ℤ) (whole : List (List ℤ)) → whole ≡ more ++ h ∷ [] →
      IsTaken h (count + length more) lin rays lines next → IsFurtherState count basis start more lin rays → IsFurtherState count basis start whole lines next

-- an operation of taking in one of these inequalities, at the state before it
pub record IsFurtherRowStep (count : ℕ) (basis : List (List ℤ)) (start : List Ray) (more : List (List ℤ)) (s : ConeOverflow) : Type 0 where
  pub before : List (List ℤ)
  pub after : List (List ℤ)
  pub lineality : List (List ℤ)
  pub rays : List Ray
  pub h : List ℤ
  pub parts : more ≡ before ++ h ∷ after
  pub reached : IsFurtherState count basis start before lineality rays
  pub step : IsRowStep (count + length before) h lineality rays s

-- an operation of finding the equations that the rows imply
pub record IsImplying (n : ℕ) (hs es : List (List ℤ)) (s : ConeOverflow) : Type 0 where
  pub flat : List (List ℤ)
  pub chosen : AreChosen (IsZeroOn n hs es) hs flat
  pub step : IsEliminationStep (length hs + length es) n (flat ++ es) n s

-- an operation at the end, where these are the lineality vectors and rays after all inequalities; its row is the number of the rows
pub data IsEndStep (n : ℕ) (hs es lin : List (List ℤ)) (rays : List Ray) (s : ConeOverflow) : Type 0 where
  lineality : IsOrthogonalizing (length hs + length es) lin s → IsEndStep n hs es lin rays s
  straight : (ortho : List (List ℤ)) (r : Ray) → IsOrthogonalized lin ortho → Contains rays r → IsStraightening (length hs + length es) ortho r.vector s →
      IsEndStep n hs es lin rays s
  echelon : IsEliminationStep (length hs + length es) n lin n s → IsEndStep n hs es lin rays s
  implied : IsImplying n hs es s → IsEndStep n hs es lin rays s

-- the rays of a cone, each with flags that tell which of its inequalities are zero on it
pub record AreMarkedRays (c : RowsAndRays) (start : List Ray) : Type 0 where
  pub vectors : c.rays ≡ vectors_of start
  pub marked : (r : Ray) → Contains start r → IsMarkedRay c.inequalities r

-- an operation of finding the rays of the part of a cone on which more inequalities aren't negative, which begins with the lineality basis and
-- the rays of the cone: of one of these inequalities, whose row is its index behind those of the cone, or at the end
pub data IsFurtherStep (c : RowsAndRays) (more : List (List ℤ)) (s : ConeOverflow) : Type 0 where
  taking : (start : List Ray) → AreMarkedRays c start → IsFurtherRowStep (length c.inequalities) c.lineality start more s → IsFurtherStep c more s
  ending : (start rays : List Ray) (lin : List (List ℤ)) → AreMarkedRays c start → IsFurtherState (length c.inequalities) c.lineality start more lin rays →
      IsEndStep c.ambient (c.inequalities ++ more) c.equations lin rays s → IsFurtherStep c more s

-- none of them leaves the range
abbrev pub AreFurtherWithinLimits : RowsAndRays → List (List ℤ) → Type 0
AreFurtherWithinLimits c more = (s : ConeOverflow) → IsFurtherStep c more s → ⊥
