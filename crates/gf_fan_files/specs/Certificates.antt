-- The rows of MAXIMAL_INTERIORS: each lies inside its cone, in the order of the listed cones, and there are as many.
-- Laws: proofs/CertificateLaws.antt.
use Rattle.std.specs.Prelude.{◌≡◌, ◌⊎◌, ℕ, ◌<◌, List, ℤ, pos, length, min, Option, None, Some, Contains, slice_index_or}
use Rattle.gf_vec.specs.declared.error.WideVector.{WideVector}
use Rattle.gf_vec.specs.Steps.{dot_steps, IsFirstWide}
use Rattle.gf_duality_theory.specs.Faces.{IsInterior}
use Rattle.gf_rays.specs.Cones.{RowsAndRays, rows_of}
use Rattle.gf_fan_files.specs.declared.error.FanFileError.{FanFileError}
use Rattle.gf_fan_files.specs.declared.error.FanFileError.TheVariants as errors

-- the row at this place lies inside the cone there
abbrev pub IsInsideAt : ℕ → List RowsAndRays → List (List ℤ) → ℕ → Type 0
IsInsideAt n cones rows place = (c : RowsAndRays) (r : List ℤ) → IsInterior n (rows_of (slice_index_or cones place c)) (slice_index_or rows place r)

-- there are as many rows as cones, and each lies inside its cone
pub record AreInsideCones (n : ℕ) (cones : List RowsAndRays) (rows : List (List ℤ)) : Type 0 where
  pub count : length rows ≡ length cones
  pub each : (place : ℕ) → place < length rows → IsInsideAt n cones rows place

-- the rows of a file, where it has such
abbrev pub AreCertified : ℕ → List RowsAndRays → Option (List (List ℤ)) → Type 0
AreCertified n cones None = Unit {0}
AreCertified n cones (Some rows) = AreInsideCones n cones rows

-- the first product or partial sum of a vector with a row of this cone that leaves the range
abbrev pub IsInsideStep : RowsAndRays → List ℤ → WideVector → Type 0
IsInsideStep c v w = (row : List ℤ) × ((Contains c.inequalities row ⊎ Contains c.equations row) × IsFirstWide w (dot_steps (pos 0) row v))

-- such an operation of the row at this place, where those before lie inside their cones
pub record IsCertificateRowStep (n : ℕ) (cones : List RowsAndRays) (rows : List (List ℤ)) (w : WideVector) : Type 0 where
  pub place : ℕ
  pub count : length rows ≡ length cones
  pub within : place < length rows
  pub before : (k : ℕ) → k < place → IsInsideAt n cones rows k
  pub step : (c : RowsAndRays) (r : List ℤ) → IsInsideStep (slice_index_or cones place c) (slice_index_or rows place r) w

-- the first row that doesn't lie inside its cone
pub record IsFirstRowOutside (n : ℕ) (cones : List RowsAndRays) (rows : List (List ℤ)) (place : ℕ) : Type 0 where
  pub count : length rows ≡ length cones
  pub within : place < length rows
  pub before : (k : ℕ) → k < place → IsInsideAt n cones rows k
  pub here : IsInsideAt n cones rows place → ⊥

-- The rows are refused so: there aren't as many as cones, and the smaller number is told; or the first that doesn't lie inside its cone is; or
-- such an operation leaves the range.
pub data IsCertificateFault (n : ℕ) (cones : List RowsAndRays) (rows : List (List ℤ)) (e : FanFileError) : Type 0 where
  other_count : (length rows ≡ length cones → ⊥) → e ≡ errors.BadCertificate (min (length rows) (length cones)) → IsCertificateFault n cones rows e
  at_row : (place : ℕ) → IsFirstRowOutside n cones rows place → e ≡ errors.BadCertificate place → IsCertificateFault n cones rows e
  too_wide : (w : WideVector) → IsCertificateRowStep n cones rows w → e ≡ errors.Wide w → IsCertificateFault n cones rows e
