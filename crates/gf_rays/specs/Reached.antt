-- The states that the double description of a system reaches, row by row, and its operations.
use Rattle.std.specs.Prelude.{◌≡◌, ℕ, ◌+◌, ◌<◌, List, [], ◌∷◌, ◌++◌, ℤ, pos, length, All, Contains, remove}
use Rattle.gf_vec.specs.Vector.{dot}
use Rattle.gf_gordan.specs.declared.error.ConeOverflow.{ConeOverflow}
use Rattle.gf_duality_theory.specs.Rays.{IsZeroOn}
use Rattle.gf_duality_theory.specs.Elimination.{IsNullSpace, IsNullStep, IsEliminationStep}
use Rattle.gf_duality_theory.specs.Straightening.{IsOrthogonalized, IsStraightening, IsOrthogonalizing}
use Rattle.gf_rays.specs.declared.ray.Ray.{Ray}
use Rattle.gf_rays.specs.MarkedRays.{IsInside, IsPruned}
use Rattle.gf_rays.specs.Splitting.{IsSplit}
use Rattle.gf_rays.specs.Leveling.{IsLine, IsLinedBy, IsRowStep}

-- no ray is inside another one
abbrev pub NoneInside : List Ray → Type 0
NoneInside rays = (i : ℕ) → i < length rays → IsInside rays i → ⊥

-- the lineality vectors and rays after these inequalities: at first the null space and no ray; an inequality that is zero on the
-- lineality vectors splits the rays, and those inside another one go; else all is brought along a lineality vector on which it isn't
pub data IsReachedState (n : ℕ) (es : List (List ℤ)) : List (List ℤ) → List (List ℤ) → List Ray → Type 0 where
  begun : (basis : List (List ℤ)) → IsNullSpace n es basis → IsReachedState n es [] basis []
  split : (hs lin : List (List ℤ)) (rays middle out : List Ray) (h : List ℤ) (whole : List (List ℤ)) → whole ≡ hs ++ h ∷ [] → All (λ x. dot h x ≡ pos 0) lin →
      IsSplit h rays middle → IsPruned middle out → NoneInside out → IsReachedState n es hs lin rays → IsReachedState n es whole lin out
  lined : (hs lin lines : List (List ℤ)) (rays next : List Ray) (h l : List ℤ) (i : ℕ) (whole : List (List ℤ)) → whole ≡ hs ++ h ∷ [] → IsLine h lin i l →
      IsLinedBy h l (remove lin i) rays (length hs) lines next → IsReachedState n es hs lin rays → IsReachedState n es whole lines next

-- in their order, those of the rows that have a property
pub data AreChosen (P : List ℤ → Type 0) : List (List ℤ) → List (List ℤ) → Type 0 where
  none : AreChosen P [] []
  taken : (rows out : List (List ℤ)) (t : List ℤ) (whole all : List (List ℤ)) → whole ≡ rows ++ t ∷ [] → all ≡ out ++ t ∷ [] → P t → AreChosen P rows out →
      AreChosen P whole all
  left : (rows out : List (List ℤ)) (t : List ℤ) (whole : List (List ℤ)) → whole ≡ rows ++ t ∷ [] → (P t → ⊥) → AreChosen P rows out → AreChosen P whole out

-- an operation of finding the rays of a cone: of the null space, of a row at the state before it, or at the state after all rows;
-- those at no row have the number of the rows
pub data IsRaysStep (n : ℕ) (hs es : List (List ℤ)) (s : ConeOverflow) : Type 0 where
  null_space : IsNullStep (length hs + length es) n es s → IsRaysStep n hs es s
  taking : (before after lin : List (List ℤ)) (rays : List Ray) (h : List ℤ) → hs ≡ before ++ h ∷ after → IsReachedState n es before lin rays →
      IsRowStep (length before) h lin rays s → IsRaysStep n hs es s
  lineality : (lin : List (List ℤ)) (rays : List Ray) → IsReachedState n es hs lin rays → IsOrthogonalizing (length hs + length es) lin s → IsRaysStep n hs es s
  straight : (lin ortho : List (List ℤ)) (rays : List Ray) (r : Ray) → IsReachedState n es hs lin rays → IsOrthogonalized lin ortho → Contains rays r →
      IsStraightening (length hs + length es) ortho r.vector s → IsRaysStep n hs es s
  echelon : (lin : List (List ℤ)) (rays : List Ray) → IsReachedState n es hs lin rays → IsEliminationStep (length hs + length es) n lin n s →
      IsRaysStep n hs es s
  implied : (flat : List (List ℤ)) → AreChosen (IsZeroOn n hs es) hs flat → IsEliminationStep (length hs + length es) n (flat ++ es) n s → IsRaysStep n hs es s
