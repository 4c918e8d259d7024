-- Vectors brought along the lineality space, told by what the rows of a cone give on them.
use Rattle.std.specs.Prelude.{◌≡◌, List, ℤ, pos, length, All}
use Rattle.std.specs.List.{AllZip}
use Rattle.gf_int_theory.specs.Content.{IsPrimitive}
use Rattle.gf_vec.specs.Vector.{dot, values}
use Rattle.gf_vec.specs.Primitive.{IsPrimitivePart}
use Rattle.gf_duality_theory.specs.Straightening.{IsOrthogonalized}
use Rattle.gf_rays.specs.declared.ray.Ray.{Ray}
use Rattle.gf_rays.specs.States.{IsStraightRay}

-- the rows give the same on x and y but for a positive factor, and y is orthogonal to the lineality vectors
pub record IsProjection (rows lin : List (List ℤ)) (x y : List ℤ) : Type 0 where
  pub given : List ℤ
  pub of_x : IsPrimitivePart (values rows x) given
  pub of_y : IsPrimitivePart (values rows y) given
  pub orthogonal : All (λ l. dot y l ≡ pos 0) lin

-- a ray that is such a vector, primitive, with its flags
pub record IsProjectedRay (rows lin : List (List ℤ)) (r s : Ray) : Type 0 where
  pub long : length s.vector ≡ length r.vector
  pub projection : IsProjection rows lin r.vector s.vector
  pub primitive : IsPrimitive s.vector
  pub flags : s.zero ≡ r.zero

-- the rays brought along lineality vectors that are made orthogonal
abbrev pub AreBrought : List (List ℤ) → List Ray → List Ray → Type 0
AreBrought lin rays out = (ortho : List (List ℤ)) × (IsOrthogonalized lin ortho × AllZip (IsStraightRay ortho) rays out)
