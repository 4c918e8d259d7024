-- Rows that keep two cones apart but for the rays that they share.
use Rattle.std.specs.Prelude.{◌≢◌, ◌⊎◌, List, ℤ, pos, ◌≤ℤ◌, All, Any, Contains}
use Rattle.gf_vec.specs.Vector.{dot}

-- the row is positive on none of the vectors
abbrev pub IsNowherePositive : List (List ℤ) → List ℤ → Type 0
IsNowherePositive vectors h = All (λ v. dot h v ≤ℤ pos 0) vectors

-- rows of one cone that are positive on no ray of the other
abbrev pub AreSeparating : List (List ℤ) → List (List ℤ) → List (List ℤ) → Type 0
AreSeparating rows rays out = All (λ h. Contains rows h × IsNowherePositive rays h) out

-- one of the rows isn't zero on the vector
abbrev pub IsCutOff : List (List ℤ) → List ℤ → Type 0
IsCutOff rows v = Any (λ h. dot h v ≢ pos 0) rows

-- each ray is one of the others, or one of these rows isn't zero on it
abbrev pub AreSettled : List (List ℤ) → List (List ℤ) → List (List ℤ) → List (List ℤ) → Type 0
AreSettled rows more others rays = All (λ r. Contains others r ⊎ IsCutOff rows r ⊎ IsCutOff more r) rays
