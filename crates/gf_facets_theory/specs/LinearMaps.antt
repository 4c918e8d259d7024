-- Linear maps of vectors. Laws: proofs/PointsByLex.antt.
use Rattle.std.specs.Prelude.{◌≡◌, ℕ, List, ℤ, length}
use Rattle.gf_int_theory.specs.Content.{scaled}
use Rattle.gf_vec.specs.Vector.{vector_sum, zeros}

-- a linear map of vectors of n entries to vectors of m entries
pub record IsLinear (n m : ℕ) (image : List ℤ → List ℤ) : Type 0 where
  pub width : (x : List ℤ) → length x ≡ n → length (image x) ≡ m
  pub zero : image (zeros n) ≡ zeros m
  pub sum : (x y : List ℤ) → length x ≡ n → length y ≡ n → image (vector_sum x y) ≡ vector_sum (image x) (image y)
  pub multiple : (k : ℤ) (x : List ℤ) → length x ≡ n → image (scaled k x) ≡ scaled k (image x)
