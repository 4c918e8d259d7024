-- What is known of a row at a vector; lists of as many facts.
use Rattle.std.specs.Prelude.{◌≡◌, ◌≢◌, ◌<◌, ℕ, List, ℤ, pos, ◌≤ℤ◌, IsTrue, length, slice_index_or}
use Rattle.gf_vec.specs.Vector.{dot}
use Rattle.gf_fan.specs.declared.signs.Sign.{Sign}

-- of a row at a vector: where it is told that it isn't positive, or isn't zero, that is so
pub record IsSign (h v : List ℤ) (s : Sign) : Type 0 where
  pub low : IsTrue s.not_positive → dot h v ≤ℤ pos 0
  pub apart : IsTrue s.not_zero → dot h v ≢ pos 0

-- n of them, the k-th in relation to k
pub record AreEach {X : Type 0} (R : ℕ → X → Type 0) (n : ℕ) (xs : List X) : Type 0 where
  pub long : length xs ≡ n
  pub each : (k : ℕ) (d : X) → k < n → R k (slice_index_or xs k d)
