-- Vectors brought along others: to zero at an inequality, or to be orthogonal to them; the operations of the latter.
use Rattle.std.specs.Prelude.{◌≡◌, ◌≢◌, ℕ, List, [], ◌∷◌, ◌++◌, ℤ, pos, ◌<ℤ◌, ◌⊎◌}
use Rattle.gf_vec.specs.declared.error.VecOp.TheVariants.{Sub}
use Rattle.gf_vec.specs.Vector.{dot}
use Rattle.gf_vec.specs.Primitive.{IsPrimitivePart}
use Rattle.gf_gordan.specs.declared.error.ConeOverflow.{ConeOverflow}
use Rattle.gf_gordan.specs.Steps.{IsDotStep}
use Rattle.gf_duality_theory.specs.Combining.{IsCombining, pair}

-- x, or x brought along l to zero at h, where h is positive on l
abbrev pub IsLeveled : List ℤ → List ℤ → List ℤ → List ℤ → Type 0
IsLeveled h l x y = ((dot h x ≡ pos 0) × (y ≡ x)) ⊎ ((dot h x ≢ pos 0) × IsPrimitivePart (pair h l x) y)

-- x brought along each of ys in turn to be orthogonal to it
pub data IsStraightened : List (List ℤ) → List ℤ → List ℤ → Type 0 where
  done : (x : List ℤ) → IsStraightened [] x x
  next : (y : List ℤ) (ys : List (List ℤ)) (x z w : List ℤ) (whole : List (List ℤ)) → whole ≡ y ∷ ys → IsLeveled y y x z → IsStraightened ys z w →
      IsStraightened whole x w

-- lineality vectors made orthogonal in turn; a zero vector goes
pub data IsOrthogonalized : List (List ℤ) → List (List ℤ) → Type 0 where
  start : IsOrthogonalized [] []
  added : (lin out : List (List ℤ)) (x w : List ℤ) (whole all : List (List ℤ)) → whole ≡ lin ++ x ∷ [] → all ≡ out ++ w ∷ [] → IsOrthogonalized lin out →
      IsStraightened out x w → pos 0 <ℤ dot w w → IsOrthogonalized whole all
  gone : (lin out : List (List ℤ)) (x w : List ℤ) (whole : List (List ℤ)) → whole ≡ lin ++ x ∷ [] → IsOrthogonalized lin out → IsStraightened out x w →
      dot w w ≡ pos 0 → IsOrthogonalized whole out

-- a step of bringing x along ys: y.y, y.x, and where that isn't zero (y.y) * x - (y.x) * y, for some prefix of ys and what it made of x
pub record IsStraightening (row : ℕ) (ys : List (List ℤ)) (x : List ℤ) (s : ConeOverflow) : Type 0 where
  pub before : List (List ℤ)
  pub y : List ℤ
  pub after : List (List ℤ)
  pub z : List ℤ
  pub parts : ys ≡ before ++ y ∷ after
  pub reached : IsStraightened before x z
  pub step : IsDotStep row y y s ⊎ IsDotStep row y z s ⊎ ((dot y z ≢ pos 0) × IsCombining row Sub (dot y y) z (dot y z) y s)

-- a step of making lineality vectors orthogonal, or of y.y for one that was
pub record IsOrthogonalizing (row : ℕ) (lin : List (List ℤ)) (s : ConeOverflow) : Type 0 where
  pub before : List (List ℤ)
  pub x : List ℤ
  pub after : List (List ℤ)
  pub out : List (List ℤ)
  pub parts : lin ≡ before ++ x ∷ after
  pub reached : IsOrthogonalized before out
  pub step : IsStraightening row out x s ⊎ ((w : List ℤ) × (IsStraightened out x w × IsDotStep row w w s))
