-- The faces of a list of cones, the common refinement of two fans, and lists of cones with the same faces.
-- Two lists whose cones meet in faces stand for two fans. Laws: proofs/RefinementLaws.antt, proofs/CoverLaws.antt.
use Rattle.std.specs.Prelude.{ℕ, List, [], ◌∷◌, ◌++◌, map, Contains, ◌↔◌}
use Rattle.gf_gordan.specs.Alternative.{AreRows}
use Rattle.gf_duality_theory.specs.Faces.{Rows, IsFaceOf, SameCone}
use Rattle.gf_fans_theory.specs.Fans.{meet}

-- each row of each cone has n entries
abbrev pub HaveEntries : ℕ → List Rows → Type 0
HaveEntries n cones = (c : Rows) → Contains cones c → AreRows n c.inequalities × AreRows n c.equations

-- f is a face of one of the cones
pub record IsFaceOfSome (n : ℕ) (cones : List Rows) (f : Rows) : Type 0 where
  pub cone : Rows
  pub listed : Contains cones cone
  pub face : IsFaceOf n f cone

-- f is what a face of a cone of the one list and a face of a cone of the other share
pub record IsMeetOfFaces (n : ℕ) (cs ds : List Rows) (f : Rows) : Type 0 where
  pub first : Rows
  pub second : Rows
  pub of_first : IsFaceOfSome n cs first
  pub of_second : IsFaceOfSome n ds second
  pub same : SameCone n f (meet first second)

-- the meets of a cone of the one list and a cone of the other, those of the first cone first
abbrev pub all_meets : List Rows → List Rows → List Rows
all_meets [] ds = []
all_meets (c ∷ cs) ds = map (meet c) ds ++ all_meets cs ds

-- the faces of es are exactly the meets of a cone of the one fan and a cone of the other
abbrev pub IsCommonRefinement : ℕ → List Rows → List Rows → List Rows → Type 0
IsCommonRefinement n cs ds es = (f : Rows) → IsFaceOfSome n es f ↔ IsMeetOfFaces n cs ds f

-- both lists have the same faces
abbrev pub HaveSameFaces : ℕ → List Rows → List Rows → Type 0
HaveSameFaces n cs ds = (f : Rows) → IsFaceOfSome n cs f ↔ IsFaceOfSome n ds f

-- each of cs is a face of one of ms, and each of ms is one of cs, by whatever rows
pub record IsCoveredBy (n : ℕ) (cs ms : List Rows) : Type 0 where
  pub each : (c : Rows) → Contains cs c → (m : Rows) × (Contains ms m × IsFaceOf n c m)
  pub some : (m : Rows) → Contains ms m → (c : Rows) × (Contains cs c × SameCone n m c)
