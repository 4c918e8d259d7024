-- The dimension that `_groebnercone` prints of a cone is the one that the cone has in a fan. Law: proofs/DimensionLaws.antt.
use Rattle.std.specs.Prelude.{◌≡◌, ℕ, ◌+◌, List, ◌++◌, ℤ, length}
use Rattle.gf_gordan.specs.Alternative.{AreRows}
use Rattle.gf_duality_theory.specs.Rays.{IsRays, IsImplied}
use Rattle.gf_fans_theory.specs.Dimension.{HasDimension}

-- In sections DIM is the number of variables less the number of implied equations; in a fan a cone has the dimension of what its rays and lineality vectors
-- span. For one cone they are one number, whatever rows it is given by.
abbrev pub DimensionsAgree : Type 0
DimensionsAgree = (n dim d : ℕ) (hs es lin rays implied : List (List ℤ)) → AreRows n hs → AreRows n es → IsRays n hs es lin rays → IsImplied n hs es implied →
    dim + length implied ≡ n → HasDimension n (rays ++ lin) d → dim ≡ d
