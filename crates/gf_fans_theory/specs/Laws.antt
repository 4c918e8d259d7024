-- The theorems on faces and fans that functions of this crate name.
use Rattle.std.specs.Prelude.{◌≡◌, ◌↔◌, ℕ, suc, List, ◌++◌, ℤ, Contains}
use Rattle.gf_duality_theory.specs.Rays.{IsRays}
use Rattle.gf_duality_theory.specs.Faces.{Rows, SameCone, IsFaceOf}
use Rattle.gf_fans_theory.specs.Dimension.{HasDimension}
use Rattle.gf_fans_theory.specs.FaceLists.{IsPartOn}
use Rattle.gf_fans_theory.specs.Fans.{MeetInFaces, MeetPairwise, FacesAreFan}
use Rattle.gf_fans_theory.specs.Separating.{AreSeparating, AreSettled}

-- the part of a cone on which some of its inequalities are zero has the lineality basis of the cone, and those of its rays
-- on which they are; and cones with one lineality basis are the same exactly where their lists of rays are
pub record FacesAreRayLists : Type 0 where
  pub rays : (n : ℕ) (hs es lin rays zero part : List (List ℤ)) → IsRays n hs es lin rays → ((t : List ℤ) → Contains zero t → Contains hs t) →
      IsPartOn zero rays part → IsRays n hs (es ++ zero) lin part
  pub same : (n : ℕ) (f g : Rows) (lin rays others : List (List ℤ)) → IsRays n f.inequalities f.equations lin rays →
      IsRays n g.inequalities g.equations lin others → SameCone n f g ↔ (rays ≡ others)

-- a part that lacks a ray, and is inside no other one that does
abbrev pub IsGreatestPart : List (List ℤ) → List (List ℤ) → List (List ℤ) → Type 0
IsGreatestPart hs rays some = (zero other : List (List ℤ)) → ((t : List ℤ) → Contains zero t → Contains hs t) → IsPartOn zero rays other →
    ((x : List ℤ) → Contains some x → Contains other x) → (((x : List ℤ) → Contains rays x → Contains other x) → ⊥) →
    (x : List ℤ) → Contains other x → Contains some x

-- a cone has a dimension more than any of its greatest proper faces
abbrev pub FacetsHaveOneLess : Type 0
FacetsHaveOneLess = (n : ℕ) (hs es lin rays zero part : List (List ℤ)) (r : List ℤ) (d : ℕ) → IsRays n hs es lin rays →
    ((t : List ℤ) → Contains zero t → Contains hs t) → IsPartOn zero rays part → Contains rays r → (Contains part r → ⊥) →
    IsGreatestPart hs rays part → HasDimension n (part ++ lin) d → HasDimension n (rays ++ lin) (suc d)

-- the rays of a cone, whichever they are
abbrev pub HasRays : ℕ → Rows → Type 0
HasRays n c = (lin rays : List (List ℤ)) × IsRays n c.inequalities c.equations lin rays

-- all faces of cones are a fan exactly where the meet of any two of the cones is a face of both; then all have one lineality basis
pub record FansAreTestedByPairs : Type 0 where
  pub fan : (n : ℕ) (cones : List Rows) → ((c : Rows) → Contains cones c → HasRays n c) → FacesAreFan n cones ↔ MeetPairwise n cones
  pub lineality : (n : ℕ) (c d : Rows) (lin rays lines others : List (List ℤ)) → IsRays n c.inequalities c.equations lin rays →
      IsRays n d.inequalities d.equations lines others → MeetInFaces n c d → lin ≡ lines

-- what is a face of a cone, and which cones meet in a face of both, depends on the cones alone and not on the rows that they are given by
pub record FacesAreOfCones : Type 0 where
  pub face : (n : ℕ) (f c d : Rows) → HasRays n d → SameCone n c d → IsFaceOf n f c → IsFaceOf n f d
  pub meet : (n : ℕ) (a b c d : Rows) → HasRays n c → HasRays n d → SameCone n a c → SameCone n b d → MeetInFaces n a b → MeetInFaces n c d

-- the meet of two cones is a face of both where rows of theirs keep them apart but for the rays that they share
abbrev pub SeparatedConesMeetInFaces : Type 0
SeparatedConesMeetInFaces = (n : ℕ) (c d : Rows) (lin rays others left right : List (List ℤ)) → IsRays n c.inequalities c.equations lin rays →
    IsRays n d.inequalities d.equations lin others →
    AreSeparating c.inequalities others left → AreSeparating d.inequalities rays right → AreSettled left right others rays → AreSettled right left rays others →
    MeetInFaces n c d
