-- Rows that compare two entries of a vector, and cones that such rows cut out of the non-negative vectors.
-- Laws: proofs/BinaryRays.antt, proofs/RowSteps.antt, proofs/DifferenceLimits.antt.
use Rattle.std.specs.Prelude.{◌≡◌, ℕ, ◌+◌, ◌<◌, ◌≤◌, List, length, slice_index_or, ℤ, pos, ◌-ℤ◌, Contains}
use Rattle.gf_vec.specs.Vector.{dot}
use Rattle.gf_poly.specs.Marking.{MarkedPolynomial}
use Rattle.gf_facets_theory.specs.Regions.{Region, IsInRegion}
use Rattle.gf_facets_theory.specs.Normals.{AreNormals}
use Rattle.gf_weights.specs.Roots.{IsRegionWithinLimits}
use Rattle.gf_weights.specs.Refusals.{AreCertificatesFittingIn}

-- on each vector of n entries the row is the difference of two of its entries, as that of (1,-1,0) is
pub record IsDifferenceRow (n : ℕ) (row : List ℤ) : Type 0 where
  pub width : length row ≡ n
  pub high : ℕ
  pub low : ℕ
  pub high_inside : high < n
  pub low_inside : low < n
  pub difference : (v : List ℤ) → length v ≡ n → dot row v ≡ slice_index_or v high (pos 0) -ℤ slice_index_or v low (pos 0)

-- so is each of these rows
abbrev pub AreDifferenceRows : ℕ → List (List ℤ) → Type 0
AreDifferenceRows n rows = (row : List ℤ) → Contains rows row → IsDifferenceRow n row

-- In at most four variables, at most three such rows that some positive vector makes positive cut out a region, and nothing that is worked out for
-- its root leaves its limits.
abbrev pub RegionsOfDifferencesFit : Type 0
RegionsOfDifferencesFit = (n : ℕ) (rows : List (List ℤ)) (v : List ℤ) → 1 ≤ n → n ≤ 4 → length rows ≤ 3 → AreDifferenceRows n rows →
    IsInRegion n (record { rows = rows; root = v }) v → IsRegionWithinLimits n rows

-- So it is with the certificates of a marked list whose normals, with the rows of the region, are at most three such rows.
abbrev pub CertificatesOfDifferencesFit : Type 0
CertificatesOfDifferencesFit = (n : ℕ) (k : Region) (bs : List MarkedPolynomial) → 1 ≤ n → n ≤ 4 → AreDifferenceRows n k.rows →
    ((normals : List (List ℤ)) → AreNormals bs normals → (length normals + length k.rows ≤ 3) × AreDifferenceRows n normals) → AreCertificatesFittingIn n k bs
