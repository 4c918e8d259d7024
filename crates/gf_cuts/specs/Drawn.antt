-- By which rows the parts of cones are cut out.
use Rattle.std.specs.Prelude.{◌≡◌, ◌⊎◌, List, ℤ, Contains}
use Rattle.gf_duality_theory.specs.Faces.{Rows}
use Rattle.gf_patterns_theory.specs.PatternRows.{vector_difference}

-- h is one of these points less one of them
pub record IsDifferenceOf (A : List (List ℤ)) (h : List ℤ) : Type 0 where
  pub high : List ℤ
  pub low : List ℤ
  pub of_high : Contains A high
  pub of_low : Contains A low
  pub is : h ≡ vector_difference high low

-- h is one of the inequalities or equations
abbrev pub HasRow : Rows → List ℤ → Type 0
HasRow c h = Contains c.inequalities h ⊎ Contains c.equations h

-- each row of p is a row of c, or one of these points less one of them
abbrev pub IsDrawnFrom : List (List ℤ) → Rows → Rows → Type 0
IsDrawnFrom A c p = (h : List ℤ) → HasRow p h → HasRow c h ⊎ IsDifferenceOf A h

-- so each of these parts is drawn from one of the cones
pub record AreDrawnFrom (A : List (List ℤ)) (cs ps : List Rows) : Type 0 where
  pub each : (p : Rows) → Contains ps p → (c : Rows) × (Contains cs c × IsDrawnFrom A c p)
