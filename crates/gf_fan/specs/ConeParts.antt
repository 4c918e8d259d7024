-- Faces of a cone as cones, by the numbers of their rays.
use Rattle.std.specs.Prelude.{◌≡◌, ◌<◌, ℕ, List, [], ◌++◌, All, length}
use Rattle.gf_fans_theory.specs.FaceLists.{numbered}
use Rattle.gf_rays.specs.Cones.{RowsAndRays}
use Rattle.gf_fan.specs.Parts.{IsPartOfCone}
use Rattle.gf_fan.specs.Vanishing.{vanishing_rows}

-- the part of a cone with the rays that have these numbers: its rows, those of its inequalities that are zero on the part once more as equations, and
-- these rays; no implied equations
abbrev pub part_by : RowsAndRays → List ℕ → RowsAndRays
part_by c numbers = record {
  ambient = c.ambient;
  inequalities = c.inequalities;
  equations = c.equations ++ vanishing_rows c.inequalities (numbered c.rays numbers);
  lineality = c.lineality;
  rays = numbered c.rays numbers;
  implied = [];
}

-- these are the numbers of the rays of a part of the cone
pub record ArePartNumbers (c : RowsAndRays) (numbers : List ℕ) : Type 0 where
  pub inside : All (λ i. i < length c.rays) numbers
  pub part : IsPartOfCone c numbers

-- the same rows, lineality basis and rays, whatever equations are given as implied
pub record HasRowsAndRaysOf (c d : RowsAndRays) : Type 0 where
  pub ambient : c.ambient ≡ d.ambient
  pub inequalities : c.inequalities ≡ d.inequalities
  pub equations : c.equations ≡ d.equations
  pub lineality : c.lineality ≡ d.lineality
  pub rays : c.rays ≡ d.rays
