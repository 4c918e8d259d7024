-- What is known of the rows of cones at any number of rays, in the bits of words, one word for each 128 rays.
use Rattle.std.specs.Prelude.{◌≡◌, ◌⊎◌, ◌↔◌, ◌<◌, ◌+◌, ◌*◌, ◌/◌, ℕ, List, [], ℤ, All, Contains, length, take, drop, slice_index_or}
use Rattle.std.specs.Int.{bit_at}
use Rattle.gf_rays.specs.Cones.{RowsAndRays}
use Rattle.gf_fan.specs.declared.bits.RowBits.{RowBits}
use Rattle.gf_fan.specs.declared.words.ConeWords.{ConeWords}
use Rattle.gf_fan.specs.Signs.{AreEach}
use Rattle.gf_fan.specs.Bits.{AreBitsOfRow, IsLowOn}

-- of a row at each of the rays: the word at b is of the 128 rays from the one with the number 128 b on
abbrev pub AreWordsOfRow : List (List ℤ) → List ℤ → List RowBits → Type 0
AreWordsOfRow rays h row = AreEach (λ b (s : RowBits). AreBitsOfRow (take 128 (drop (b * 128) rays)) h s) (length rays / 128 + 1) row

-- of each of the rows
abbrev pub AreWordsOfRows : List (List ℤ) → List (List ℤ) → List (List RowBits) → Type 0
AreWordsOfRows rays rows known = AreEach (λ k (s : List RowBits). AreWordsOfRow rays (slice_index_or rows k []) s) (length rows) known

-- the words with the bits for these numbers of as many rays
abbrev pub AreOwnWords : ℕ → List ℕ → List ℕ → Type 0
AreOwnWords len numbers own = AreEach (λ b (w : ℕ). (j : ℕ) → j < 128 → (bit_at w j ≡ 1) ↔ Contains numbers (b * 128 + j)) (len / 128 + 1) own

-- an index of one of the rows among those known
abbrev pub IsIndexOf : List (List ℤ) → List (List RowBits) → List (List ℤ) → ℕ → Type 0
IsIndexOf rays known rows p = (p < length known) × ((h : List ℤ) × (Contains rows h × ((d : List RowBits) → AreWordsOfRow rays h (slice_index_or known p d))))

abbrev pub AreIndicesOf : List (List ℤ) → List (List RowBits) → List (List ℤ) → List ℕ → Type 0
AreIndicesOf rays known rows indices = All (IsIndexOf rays known rows) indices

-- of a cone: which of the rays are its own, and of its inequalities at each of the rays
pub record AreWordsOfCone (rays : List (List ℤ)) (known : List (List RowBits)) (c : RowsAndRays) (s : ConeWords) : Type 0 where
  pub long : length s.own.items ≡ length rays / 128 + 1
  pub each : (b j : ℕ) → b * 128 + j < length rays → j < 128 → bit_at (slice_index_or s.own.items b 0) j ≡ 1 → Contains c.rays
      (slice_index_or rays (b * 128 + j) [])
  pub every : (r : List ℤ) → Contains c.rays r → (b : ℕ) × ((j : ℕ) × ((b * 128 + j < length rays) × (j < 128) × (slice_index_or rays (b * 128 + j) [] ≡ r) ×
      (bit_at (slice_index_or s.own.items b 0) j ≡ 1)))
  pub rows : AreIndicesOf rays known c.inequalities s.rows.items

-- of the first of some cones
pub record AreWordsOfFirst (cones : List RowsAndRays) (known : List (List RowBits)) (words : List ConeWords) : Type 0 where
  pub rays : List (List ℤ)
  pub wide : (p : ℕ) (d : List RowBits) → p < length known → length (slice_index_or known p d) ≡ length rays / 128 + 1
  pub each : (k : ℕ) (c : RowsAndRays) (s : ConeWords) → k < length words → AreWordsOfCone rays known (slice_index_or cones k c) (slice_index_or words k s)

-- of two cones, at two indices, where something stands there
pub record AreWordsOfTwo (c d : RowsAndRays) (known : List (List RowBits)) (words : List ConeWords) (i j : ℕ) : Type 0 where
  pub rays : List (List ℤ)
  pub wide : (p : ℕ) (d : List RowBits) → p < length known → length (slice_index_or known p d) ≡ length rays / 128 + 1
  pub first : (s : ConeWords) → i < length words → AreWordsOfCone rays known c (slice_index_or words i s)
  pub second : (s : ConeWords) → j < length words → AreWordsOfCone rays known d (slice_index_or words j s)

-- a row that is told to be positive at none of the bits of these words
abbrev pub IsLowInWords : List RowBits → List ℕ → Type 0
IsLowInWords row own = (b : ℕ) (d : RowBits) → b < length own → IsLowOn (slice_index_or row b d) (slice_index_or own b 0)

-- those of the indices at which such rows are
abbrev pub AreLowIndices : List (List RowBits) → List ℕ → List ℕ → List ℕ → Type 0
AreLowIndices known indices own out = All (λ p. Contains indices p × ((d : List RowBits) → IsLowInWords (slice_index_or known p d) own)) out

-- one of the rows at these indices isn't zero at the bit i of the word at b
abbrev pub IsCutIn : List (List RowBits) → List ℕ → ℕ → ℕ → Type 0
IsCutIn known indices b i = (p : ℕ) × (Contains indices p × ((d : List RowBits) (e : RowBits) → bit_at
    (slice_index_or (slice_index_or known p d) b e).cut i ≡ 1))

-- each bit of two words is one of both or of none, or one of the rows at these indices isn't zero there
abbrev pub IsToldAt : List (List RowBits) → List ℕ → List ℕ → ℕ → ℕ → ℕ → Type 0
IsToldAt known left right x y b = (i : ℕ) → (bit_at x i ≡ bit_at y i) ⊎ IsCutIn known left b i ⊎ IsCutIn known right b i

-- rows of two cones that are told to keep them apart but for the rays that they share, by indices
pub record AreToldByWords (known : List (List RowBits)) (s t : ConeWords) : Type 0 where
  pub left : List ℕ
  pub right : List ℕ
  pub of_left : AreLowIndices known s.rows.items t.own.items left
  pub of_right : AreLowIndices known t.rows.items s.own.items right
  pub told : (b : ℕ) → b < length s.own.items → IsToldAt known left right (slice_index_or s.own.items b 0) (slice_index_or t.own.items b 0) b
