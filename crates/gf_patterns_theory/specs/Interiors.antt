-- Relative interiors of cones, told without rows.
use Rattle.std.specs.Prelude.{◌≡◌, ℕ, List, ℤ, length}
use Rattle.gf_int_theory.specs.Content.{scaled}
use Rattle.gf_vec.specs.Vector.{vector_sum}
use Rattle.gf_vec.specs.Vector.{opposite}
use Rattle.gf_duality_theory.specs.Faces.{Rows, IsInCone, SameCone}
use Rattle.gf_patterns_theory.specs.Refinements.{IsFaceOfSome}

-- k times w, less u
abbrev pub beyond : ℤ → List ℤ → List ℤ → List ℤ
beyond k w u = vector_sum (scaled k w) (opposite u)

-- w is in the relative interior of the cone: for each of its vectors, some multiple of w less it is in the cone too.
-- Source: Rockafellar, Convex Analysis, 6.
pub record IsRelativeInterior (n : ℕ) (c : Rows) (w : List ℤ) : Type 0 where
  pub width : length w ≡ n
  pub inside : IsInCone c w
  pub past : (u : List ℤ) → length u ≡ n → IsInCone c u → (k : ℤ) × IsInCone c (beyond k w u)

-- each face of the cones has a vector of its relative interior
abbrev pub HaveInteriors : ℕ → List Rows → Type 0
HaveInteriors n cones = (f : Rows) → IsFaceOfSome n cones f → (w : List ℤ) × IsRelativeInterior n f w

-- w is in the relative interior of the face f of one of the cones, and of no other face
pub record IsAloneAround (n : ℕ) (cones : List Rows) (w : List ℤ) (f : Rows) : Type 0 where
  pub face : IsFaceOfSome n cones f
  pub interior : IsRelativeInterior n f w
  pub alone : (g : Rows) → IsFaceOfSome n cones g → IsRelativeInterior n g w → SameCone n f g
