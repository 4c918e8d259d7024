-- Cones inside one another, by vectors and by what generates them; pairs of maximal cones whose meets have all of them inside.
use Rattle.std.specs.Prelude.{◌≡◌, ◌≤ℤ◌, ℕ, ◌*◌, ◌/◌, ◌%◌, ◌<◌, List, ℤ, pos, Option, Some, None, Contains, length, IfSome, MatchOption, slice_index_or}
use Rattle.gf_vec.specs.Vector.{dot}
use Rattle.gf_duality_theory.specs.Faces.{Rows, IsInCone}
use Rattle.gf_fans_theory.specs.Fans.{meet}
use Rattle.gf_rays.specs.Cones.{rows_of}
use Rattle.gf_fan.specs.declared.cones.FanCone.{FanCone}
use Rattle.gf_fan.specs.MaximalCones.{no_cone}

-- each vector of n entries in c is in d
abbrev pub LiesInside : ℕ → Rows → Rows → Type 0
LiesInside n c d = (v : List ℤ) → length v ≡ n → IsInCone c v → IsInCone d v

-- no row is negative on a ray, and each is zero on each lineality vector
pub record AreUpOn (rows rays lineality : List (List ℤ)) : Type 0 where
  pub up : (h x : List ℤ) → Contains rows h → Contains rays x → pos 0 ≤ℤ dot h x
  pub flat : (h x : List ℤ) → Contains rows h → Contains lineality x → dot h x ≡ pos 0

-- each row is zero on each ray and on each lineality vector
pub record AreZeroOn (rows rays lineality : List (List ℤ)) : Type 0 where
  pub rays_flat : (h x : List ℤ) → Contains rows h → Contains rays x → dot h x ≡ pos 0
  pub flat : (h x : List ℤ) → Contains rows h → Contains lineality x → dot h x ≡ pos 0

-- the cone at an index of a list
abbrev pub cone_at : List FanCone → ℕ → Rows
cone_at cs i = rows_of (slice_index_or cs i no_cone).cone

-- what the cones of a pair share, by the number of the pair, the pairs of the first cone first
abbrev pub meet_at : List FanCone → List FanCone → ℕ → Rows
meet_at cs ds k = meet (cone_at cs (k / length ds)) (cone_at ds (k % length ds))

-- the cone at j holds c, and none holds it itself
pub record IsHolder (n : ℕ) (c : Rows) (ds : List FanCone) (held : List (Option ℕ)) (j : ℕ) : Type 0 where
  pub inside : j < length ds
  pub holds : LiesInside n c (cone_at ds j)
  pub free : slice_index_or held j (Some 0) ≡ None

-- for each cone of the one list such a one of the other, or none
pub record AreHolders (n : ℕ) (cs ds : List FanCone) (held holders : List (Option ℕ)) : Type 0 where
  pub long : length holders ≡ length cs
  pub each : (i : ℕ) → i < length cs → IfSome (slice_index_or holders i None) (IsHolder n (cone_at cs i) ds held)

-- the pair is met: where a cone of the other list holds the first one, with that alone; else where one holds the second, with that alone
abbrev pub IsMet : List (Option ℕ) → List (Option ℕ) → ℕ → ℕ → Type 0
IsMet held others i j = MatchOption (slice_index_or held i None) (MatchOption (slice_index_or others j None) (Unit {0}) (λ o. o ≡ i)) (λ o. o ≡ j)

-- pairs by their numbers, so that what the cones of any pair share lies inside what those of one of these share
pub record AreMetPairs (n : ℕ) (cs ds : List FanCone) (ks : List ℕ) : Type 0 where
  pub each : (k : ℕ) → Contains ks k → k < length cs * length ds
  pub every : (k : ℕ) → k < length cs * length ds → (m : ℕ) × (Contains ks m × LiesInside n (meet_at cs ds k) (meet_at cs ds m))
