-- What is known of the rows of cones at few rays, in the bits of words.
use Rattle.std.specs.Prelude.{◌≡◌, ◌≢◌, ◌⊎◌, ◌<◌, ℕ, List, [], ℤ, pos, ◌≤ℤ◌, Any, Contains, length, slice_index_or}
use Rattle.std.specs.Int.{bit_at}
use Rattle.gf_vec.specs.Vector.{dot}
use Rattle.gf_rays.specs.Cones.{RowsAndRays}
use Rattle.gf_fan.specs.declared.bits.RowBits.{RowBits}
use Rattle.gf_fan.specs.declared.bits.ConeBits.{ConeBits}
use Rattle.gf_fan.specs.Signs.{AreEach}

-- of a row at each of the rays: where its bit is clear it isn't positive, and where it is told not to be zero that is so
pub record AreBitsOfRow (rays : List (List ℤ)) (h : List ℤ) (s : RowBits) : Type 0 where
  pub low : (i : ℕ) → i < length rays → bit_at s.high i ≡ 0 → dot h (slice_index_or rays i []) ≤ℤ pos 0
  pub apart : (i : ℕ) → i < length rays → bit_at s.cut i ≡ 1 → dot h (slice_index_or rays i []) ≢ pos 0

-- of each of the rows
abbrev pub AreBitsOfRows : List (List ℤ) → List (List ℤ) → List RowBits → Type 0
AreBitsOfRows rays rows bits = AreEach (λ k (s : RowBits). AreBitsOfRow rays (slice_index_or rows k []) s) (length rows) bits

-- of a cone: which of the rays are its own, and of each inequality at each of the rays
pub record AreBitsOfCone (rays : List (List ℤ)) (c : RowsAndRays) (s : ConeBits) : Type 0 where
  pub each : (i : ℕ) → i < length rays → bit_at s.own i ≡ 1 → Contains c.rays (slice_index_or rays i [])
  pub every : (r : List ℤ) → Contains c.rays r → (i : ℕ) × ((i < length rays) × (slice_index_or rays i [] ≡ r) × (bit_at s.own i ≡ 1))
  pub rows : AreBitsOfRows rays c.inequalities s.rows.items

-- of the first of some cones
pub record AreBitsOfFirst (cones : List RowsAndRays) (bits : List ConeBits) : Type 0 where
  pub rays : List (List ℤ)
  pub each : (k : ℕ) (c : RowsAndRays) (s : ConeBits) → k < length bits → AreBitsOfCone rays (slice_index_or cones k c) (slice_index_or bits k s)

-- of two cones, at two indices, where something stands there
pub record AreBitsOfTwo (c d : RowsAndRays) (bits : List ConeBits) (i j : ℕ) : Type 0 where
  pub rays : List (List ℤ)
  pub first : (s : ConeBits) → i < length bits → AreBitsOfCone rays c (slice_index_or bits i s)
  pub second : (s : ConeBits) → j < length bits → AreBitsOfCone rays d (slice_index_or bits j s)

-- a row that is told to be positive at none of the bits
abbrev pub IsLowOn : RowBits → ℕ → Type 0
IsLowOn row own = (i : ℕ) → bit_at own i ≡ 1 → bit_at row.high i ≡ 0

-- one of the rows that are positive at none of the bits isn't zero at i
abbrev pub IsExcludedBy : List RowBits → ℕ → ℕ → Type 0
IsExcludedBy rows own i = Any (λ (s : RowBits). IsLowOn s own × (bit_at s.cut i ≡ 1)) rows

-- rows of two cones that are told to keep them apart but for the rays that they share
abbrev pub AreToldByBits : ConeBits → ConeBits → Type 0
AreToldByBits s t = (i : ℕ) → (bit_at s.own i ≡ bit_at t.own i) ⊎ IsExcludedBy s.rows.items t.own i ⊎ IsExcludedBy t.rows.items s.own i
