-- Vertices: the points that are higher than each other point at some vector. The cones of these alone have all faces.
-- Source: Ziegler, Lectures on Polytopes, 2.1, 7.1.
use Rattle.std.specs.Prelude.{◌≡◌, ◌≢◌, ℕ, ◌<◌, List, ℤ, ◌<ℤ◌, length, Contains}
use Rattle.gf_vec.specs.Vector.{dot}
use Rattle.gf_duality_theory.specs.Faces.{Rows}
use Rattle.gf_patterns_theory.specs.PatternRows.{point_at, single_rows, pair_rows}

-- at some vector a is higher than each other point
pub record IsVertex (n : ℕ) (A : List (List ℤ)) (a : List ℤ) : Type 0 where
  pub vector : List ℤ
  pub width : length vector ≡ n
  pub alone : (b : List ℤ) → Contains A b → b ≢ a → dot b vector <ℤ dot a vector

-- cones of single points, among them those of all vertices
pub record AreVertexCones (n : ℕ) (A : List (List ℤ)) (cones : List Rows) : Type 0 where
  pub each : (c : Rows) → Contains cones c → (i : ℕ) × ((i < length A) × (c ≡ single_rows A i))
  pub every : (i : ℕ) → i < length A → IsVertex n A (point_at A i) → Contains cones (single_rows A i)

-- cones of pairs of points, among them those of all pairs of vertices
pub record AreVertexPairCones (n : ℕ) (A : List (List ℤ)) (cones : List Rows) : Type 0 where
  pub each : (c : Rows) → Contains cones c → (i : ℕ) × (j : ℕ) × ((i < j) × (j < length A) × (c ≡ pair_rows A i j))
  pub every : (i j : ℕ) → i < j → j < length A → IsVertex n A (point_at A i) → IsVertex n A (point_at A j) → Contains cones (pair_rows A i j)
