-- What is written of a fan is read again.
-- Laws: proofs/AgainLaws.antt.
use Rattle.std.specs.Prelude.{ℕ, ◌<◌, ◌≤◌, ℤ, List, Some, length, map, unsigned_abs, All}
use Rattle.gf_gordan.specs.Alternative.{AreRows}
use Rattle.gf_text.specs.declared.TheConstants.{MOST_VARIABLES}
use Rattle.gf_fan_files.specs.declared.file.FanFile.{FanFile}
use Rattle.gf_fan_files.specs.declared.parts.ListedCone.{ListedCone}
use Rattle.gf_fan_files.specs.RowText.{most_row_entry}
use Rattle.gf_fan_files.specs.ConeText.{most_number}
use Rattle.gf_fan_files.specs.Files.{IsFileOf, AreBelow}
use Rattle.gf_fan_files.specs.FanWords.{FanWords, fan_text}

-- n entries each, within the limit of rows
pub record AreWritable (n : ℕ) (rows : List (List ℤ)) : Type 0 where
  pub width : AreRows n rows
  pub entries : All (λ r. All (λ z. unsigned_abs z ≤ most_row_entry) r) rows

-- its dimension and numbers are within the limit of ray numbers
pub record IsWritableCone (c : ListedCone) : Type 0 where
  pub dim : c.dim ≤ most_number
  pub rays : All (λ k. k ≤ most_number) c.rays

-- the numbers in the cones are below this one
abbrev pub AreNumbersBelow : ℕ → List ListedCone → Type 0
AreNumbersBelow count cs = All (λ (c : ListedCone). AreBelow count c.rays) cs

-- Within the limits of fan files: the ambient dimension is from 1 to MOST_VARIABLES, each row has as many entries, and entries, dimensions
-- and how many there are don't pass their limits.
pub record IsWritable (f : FanWords) : Type 0 where
  pub positive : 0 < f.ambient
  pub ambient : f.ambient ≤ MOST_VARIABLES
  pub rays : AreWritable f.ambient f.rays
  pub lineality : AreWritable f.ambient f.lineality
  pub orthogonal : AreWritable f.ambient f.orthogonal
  pub interiors : AreWritable f.ambient f.interiors
  pub cones : All IsWritableCone f.cones
  pub maximal : All IsWritableCone f.maximal
  pub rays_count : length f.rays ≤ most_number
  pub lineality_count : length f.lineality ≤ most_number
  pub cones_count : length f.cones ≤ most_number

-- what is read of it: the ambient dimension, the rays, the basis of the lineality space, the maximal cones, the vectors for these
abbrev pub file_of : FanWords → FanFile
file_of f = record {
  ambient = f.ambient;
  rays = f.rays;
  lineality = f.lineality;
  cones = map (λ (c : ListedCone). c.rays) f.maximal;
  interiors = Some f.interiors;
}

-- the text of a fan says what was written of it
abbrev pub FansAreReadAgain : Type 0
FansAreReadAgain = (f : FanWords) → IsWritable f → IsFileOf (fan_text f) (file_of f)
