-- The cones of the vectors at which one or two given exponents of a polynomial are highest, by rows.
use Rattle.std.specs.Prelude.{◌≡◌, ℕ, ◌<◌, List, [], ◌∷◌, map, ℤ, ◌-ℤ◌, length, Contains, remove, slice_index_or}
use Rattle.gf_duality_theory.specs.Faces.{Rows}

-- the difference entry by entry, of the shorter length
abbrev pub vector_difference : List ℤ → List ℤ → List ℤ
vector_difference [] ys = []
vector_difference (x ∷ xs) [] = []
vector_difference (x ∷ xs) (y ∷ ys) = (x -ℤ y) ∷ vector_difference xs ys

-- the point at an index
abbrev pub point_at : List (List ℤ) → ℕ → List ℤ
point_at A i = slice_index_or A i []

-- the cone of one point: it minus each other point
abbrev pub single_rows : List (List ℤ) → ℕ → Rows
single_rows A i = record { inequalities = map (vector_difference (point_at A i)) (remove A i); equations = [] }

-- the cone of two points: the first minus each point but these, and their difference as equation
abbrev pub pair_rows : List (List ℤ) → ℕ → ℕ → Rows
pair_rows A i j = record {
  inequalities = map (vector_difference (point_at A i)) (remove (remove A j) i);
  equations = vector_difference (point_at A i) (point_at A j) ∷ [];
}

-- the cones of all single points
pub record AreSingleCones (A : List (List ℤ)) (cones : List Rows) : Type 0 where
  pub each : (c : Rows) → Contains cones c → (i : ℕ) × ((i < length A) × (c ≡ single_rows A i))
  pub every : (i : ℕ) → i < length A → Contains cones (single_rows A i)

-- the cones of all pairs of points
pub record ArePairCones (A : List (List ℤ)) (cones : List Rows) : Type 0 where
  pub each : (c : Rows) → Contains cones c → (i : ℕ) × (j : ℕ) × ((i < j) × (j < length A) × (c ≡ pair_rows A i j))
  pub every : (i j : ℕ) → i < j → j < length A → Contains cones (pair_rows A i j)
