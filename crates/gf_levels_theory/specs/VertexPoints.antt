-- The points of the vertices of a polynomial alone.
use Rattle.std.specs.Prelude.{◌≡◌, ℕ, ◌<◌, List, ℤ, length, map, AllPairs, Contains}
use Rattle.gf_patterns_theory.specs.PatternRows.{point_at}
use Rattle.gf_patterns_theory.specs.Vertices.{IsVertex}

-- points at indices that ascend, among them all vertices
pub record AreVertexPoints (n : ℕ) (A B : List (List ℤ)) : Type 0 where
  pub indices : List ℕ
  pub ascending : AllPairs (λ j k. j < k) indices
  pub inside : (k : ℕ) → Contains indices k → k < length A
  pub are : B ≡ map (point_at A) indices
  pub every : (k : ℕ) → k < length A → IsVertex n A (point_at A k) → Contains indices k
