-- Fans of cones.
use Rattle.std.specs.Prelude.{ℕ, List, ◌++◌, AllPairs, Contains}
use Rattle.gf_duality_theory.specs.Faces.{Rows, IsFaceOf}

-- the vectors that two cones share: the rows of the one, then of the other
abbrev pub meet : Rows → Rows → Rows
meet c d = record { inequalities = c.inequalities ++ d.inequalities; equations = c.equations ++ d.equations }

-- the meet of two cones is a face of both
abbrev pub MeetInFaces : ℕ → Rows → Rows → Type 0
MeetInFaces n c d = IsFaceOf n (meet c d) c × IsFaceOf n (meet c d) d

-- the meet of any two of them is a face of both
abbrev pub MeetPairwise : ℕ → List Rows → Type 0
MeetPairwise n cones = AllPairs (MeetInFaces n) cones

-- all faces of the cones are a fan: the meet of any two of these faces is a face of both
abbrev pub FacesAreFan : ℕ → List Rows → Type 0
FacesAreFan n cones = (c d f g : Rows) → Contains cones c → Contains cones d → IsFaceOf n f c → IsFaceOf n g d → MeetInFaces n f g
