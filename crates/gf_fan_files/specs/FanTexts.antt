-- The text of the fan of cones.
use Rattle.std.specs.Prelude.{◌≡◌, ℕ, List, [], ◌∷◌, ℤ, map, flat_map, Option, None, Some, slice_get, Contains, All, ◌≤◌, unsigned_abs}
use Rattle.gf_vec.specs.Vector.{zeros}
use Rattle.gf_vec.specs.declared.error.WideVector.{WideVector}
use Rattle.gf_vec.specs.Steps.{IsFirstWide}
use Rattle.gf_duality_theory.specs.Faces.{sum_of}
use Rattle.gf_fans_theory.specs.FaceLists.{numbered}
use Rattle.gf_rays.specs.Sums.{adding_steps}
use Rattle.gf_rays.specs.Cones.{RowsAndRays}
use Rattle.gf_fan.specs.declared.cones.FanCone.{FanCone}
use Rattle.gf_fan.specs.FanLists.{FanLists}
use Rattle.gf_fan.specs.FansOfCones.{IsFanOf}
use Rattle.gf_fan_files.specs.declared.parts.ListedCone.{ListedCone}
use Rattle.gf_fan_files.specs.RowText.{most_row_entry}
use Rattle.gf_fan_files.specs.FanWords.{FanWords, fan_text}

-- ---- what is written of a fan

-- a cone: its dimension, and the numbers of its rays
abbrev pub listed_cone : FanCone → ListedCone
listed_cone k = record { dim = k.dim; rays = k.numbers }

-- so with each of them
abbrev pub listed_cones : List FanCone → List ListedCone
listed_cones cones = map listed_cone cones

-- the one at a place; none past the end
abbrev pub one_listed : Option FanCone → List ListedCone
one_listed None = []
one_listed (Some k) = listed_cone k ∷ []

-- those at these places
abbrev pub listed_at : List FanCone → List ℕ → List ListedCone
listed_at cones places = flat_map (λ i. one_listed (slice_get cones i)) places

-- of each cone the sum of the rays with its numbers: the zero vector where it has none
abbrev pub interiors_of : ℕ → List (List ℤ) → List ListedCone → List (List ℤ)
interiors_of n rays cones = map (λ (c : ListedCone). sum_of n (numbered rays c.rays)) cones

-- its parts, all of its cones, the maximal ones of them, and the sum of the rays of each of these
abbrev pub parts_of_fan : FanLists → FanWords
parts_of_fan f = record {
  ambient = f.ambient;
  rays = f.rays;
  lineality = f.lineality;
  orthogonal = f.orthogonal;
  cones = listed_cones f.cones;
  maximal = listed_at f.cones f.maximal;
  interiors = interiors_of f.ambient f.rays (listed_at f.cones f.maximal);
}

-- the first sum of entries, in adding up the rays of a maximal cone from the left, that leaves the range
abbrev pub IsWritingStep : FanLists → WideVector → Type 0
IsWritingStep f w = (c : ListedCone) × (Contains (listed_at f.cones f.maximal) c × IsFirstWide w (adding_steps (zeros f.ambient) (numbered f.rays c.rays)))

-- the entries of the sums that are written are within the limit of rows
abbrev pub AreSumsWithin : FanLists → Type 0
AreSumsWithin f = All (λ r. All (λ z. unsigned_abs z ≤ most_row_entry) r) (parts_of_fan f).interiors

-- the text of the fan of all faces of these cones of vectors of n entries
pub record IsFanText (n : ℕ) (cones : List RowsAndRays) (text : List ℕ) : Type 0 where
  pub fan : FanLists
  pub is_fan : IsFanOf n cones fan
  pub is_text : text ≡ fan_text (parts_of_fan fan)
