-- The parts of one cone.
use Rattle.std.specs.Prelude.{◌≡◌, ◌≢◌, ◌↔◌, ℕ, ◌<◌, List, [], ◌∷◌, ℤ, ◌≤ℤ◌, length, Contains}
use Rattle.gf_vec.specs.Vector.{dot}
use Rattle.gf_duality_theory.specs.Faces.{Rows, IsInCone, SameCone}
use Rattle.gf_patterns_theory.specs.PatternRows.{point_at}
use Rattle.gf_levels_theory.specs.declared.members.Members.{Members}
use Rattle.gf_levels_theory.specs.declared.members.Members.TheVariants.{One, Two}

-- at v no point is above the one at an index
abbrev pub IsTopAt : List (List ℤ) → ℕ → List ℤ → Type 0
IsTopAt A i v = (b : List ℤ) → Contains A b → dot b v ≤ℤ dot (point_at A i) v

-- so on all of the cone
abbrev pub IsTopOn : ℕ → List (List ℤ) → ℕ → Rows → Type 0
IsTopOn n A i c = (v : List ℤ) → length v ≡ n → IsInCone c v → IsTopAt A i v

-- each point is, on all of the cone, nowhere above that at one of these indices
abbrev pub AreTops : ℕ → List (List ℤ) → Rows → List ℕ → Type 0
AreTops n A c tops = (x : ℕ) → x < length A → (y : ℕ) × (Contains tops y × ((v : List ℤ) → length v ≡ n → IsInCone c v →
    dot (point_at A x) v ≤ℤ dot (point_at A y) v))

-- at v none of the points at these indices is above the one at top
abbrev pub IsAbove : List (List ℤ) → ℕ → List ℕ → List ℤ → Type 0
IsAbove A top indices v = (x : ℕ) → Contains indices x → dot (point_at A x) v ≤ℤ dot (point_at A top) v

-- p is the part of c on which that holds
abbrev pub IsPartOver : ℕ → List (List ℤ) → ℕ → List ℕ → Rows → Rows → Type 0
IsPartOver n A top indices c p = (v : List ℤ) → length v ≡ n → IsInCone p v ↔ (IsInCone c v × IsAbove A top indices v)

-- p is the part of c on which the point at x is as high as the one at top
abbrev pub IsTiePart : ℕ → List (List ℤ) → ℕ → ℕ → Rows → Rows → Type 0
IsTiePart n A top x c p = (v : List ℤ) → length v ≡ n → IsInCone p v ↔ (IsInCone c v × (dot (point_at A x) v ≡ dot (point_at A top) v))

-- parts on which another point is as high as the one at top, so that each such part lies inside one of them
pub record AreTieParts (n : ℕ) (A : List (List ℤ)) (top : ℕ) (c : Rows) (parts : List Rows) : Type 0 where
  pub each : (p : Rows) → Contains parts p → (x : ℕ) × ((x < length A) × (x ≢ top) × IsTiePart n A top x c p)
  pub every : (x : ℕ) → x < length A → x ≢ top → (p : Rows) × (Contains parts p × ((v : List ℤ) → length v ≡ n → IsInCone c v →
      dot (point_at A x) v ≡ dot (point_at A top) v → IsInCone p v))

-- the parts of a cone on which the point at top is highest, of so many members
abbrev pub AreTopParts : Members → ℕ → List (List ℤ) → ℕ → Rows → List Rows → Type 0
AreTopParts One n A top c parts = (p : Rows) × ((parts ≡ p ∷ []) × SameCone n p c)
AreTopParts Two n A top c parts = AreTieParts n A top c parts

-- the parts of c on which the point at t is highest, of so many members
pub record AreOfTop (members : Members) (n : ℕ) (A : List (List ℤ)) (c : Rows) (tops : List ℕ) (t : ℕ) (out : List Rows) : Type 0 where
  pub part : Rows
  pub over : IsPartOver n A t tops c part
  pub parts : AreTopParts members n A t part out

-- those of each of these indices, in one list
pub record AreOfTops (members : Members) (n : ℕ) (A : List (List ℤ)) (c : Rows) (tops done : List ℕ) (out : List Rows) : Type 0 where
  pub each : (p : Rows) → Contains out p → (t : ℕ) × (parts : List Rows) × (Contains done t × AreOfTop members n A c tops t parts × Contains parts p)
  pub every : (t : ℕ) → Contains done t → (parts : List Rows) × (AreOfTop members n A c tops t parts × ((p : Rows) → Contains parts p → Contains out p))
