-- Systems of whose rays no operation leaves the range, by bounds on their rows.
use Rattle.std.specs.Prelude.{◌≡◌, ℕ, zero, suc, ◌+◌, ◌*◌, ◌^◌, ◌<◌, ◌≤◌, ◌-◌, Bool, true, false, ◌&&◌, cond, ltb, slice_index_or, List, [], ◌∷◌, ◌++◌, ℤ, pos}
use Rattle.std.specs.Prelude.{length, Contains}
use Rattle.gf_vec.specs.Vector.{dot, zeros}
use Rattle.gf_gordan.specs.Alternative.{AreRows}
use Rattle.gf_gordan.specs.Sizes.{HaveEntriesUpTo}
use Rattle.gf_duality_theory.specs.Generators.{unit_vectors}
use Rattle.gf_duality_theory.specs.Faces.{Rows}
use Rattle.gf_duality_theory.specs.Rays.{IsRays}
use Rattle.gf_rays.specs.Cones.{RowsAndRays, rows_of, AreRaysWithinLimits}
use Rattle.gf_rays.specs.Further.{AreFurtherWithinLimits}

-- how large entries up to b are after so many pivots of an elimination
abbrev pub turned_bound : ℕ → ℕ → ℕ
turned_bound b zero = b
turned_bound b (suc j) = turned_bound b j * turned_bound b j + turned_bound b j * turned_bound b j

-- how large the combinations of two vectors with entries up to m are, that a row with n entries up to b has
abbrev pub next_bound : ℕ → ℕ → ℕ → ℕ
next_bound n b m = n * (b * m) * m + n * (b * m) * m

-- how large the entries of lineality vectors and rays are after so many such rows
abbrev pub reached_bound : ℕ → ℕ → ℕ → ℕ
reached_bound n b zero = 1
reached_bound n b (suc k) = next_bound n b (reached_bound n b k)

-- how large a vector with entries up to x is, brought along so many vectors with entries up to o to be orthogonal to them
abbrev pub along_bound : ℕ → ℕ → ℕ → ℕ
along_bound n o x = n * (o * o) * x + n * (o * x) * o

-- the same after so many of these vectors, in turn
abbrev pub straight_bound : ℕ → ℕ → ℕ → ℕ → ℕ
straight_bound n o zero x = x
straight_bound n o (suc k) x = along_bound n o (straight_bound n o k x)

-- how large so many vectors with entries up to m are, made orthogonal in turn
abbrev pub orthogonal_bound : ℕ → ℕ → ℕ → ℕ
orthogonal_bound n m zero = 1
orthogonal_bound n m (suc k) = orthogonal_bound n m k + straight_bound n (orthogonal_bound n m k) k m

-- ---- whether these bounds have room

-- numbers up to b stay within the range of an entry
abbrev pub fits : ℕ → Bool
fits b = ltb b (2 ^ 127)

-- at the end, of so many lineality vectors and perhaps some rays, with entries up to m
abbrev pub ends_fit : ℕ → Bool → ℕ → ℕ → Bool
ends_fit n some c m =
    fits (n * (orthogonal_bound n m c * orthogonal_bound n m c)) && (cond some (fits (straight_bound n (orthogonal_bound n m c) c m)) true && fits
    (turned_bound m c))

-- of so many rows with entries up to b behind such vectors: each row leaves the lineality vectors, or makes a ray of one of them
abbrev pub rows_fit : ℕ → ℕ → ℕ → Bool → ℕ → ℕ → Bool
rows_fit n b zero some c m = ends_fit n some c m
rows_fit n b (suc k) some c m =
    fits (next_bound n b m) && (rows_fit n b k some c (cond some (next_bound n b m) m) && rows_fit n b k true (c - 1) (next_bound n b m))

-- behind null spaces of at least so many equations
abbrev pub starts_fit : ℕ → ℕ → ℕ → ℕ → Bool
starts_fit n b k zero = rows_fit n b k false n 1
starts_fit n b k (suc p) = rows_fit n b k false (n - suc p) (turned_bound b n) && starts_fit n b k p

-- for so many inequalities and any number of equations, of n entries up to b
abbrev pub has_room : ℕ → ℕ → ℕ → Bool
has_room n b k = fits (turned_bound b n) && starts_fit n b k n

-- ---- the laws

-- each row has n entries, up to b
pub record IsSmallSystem (n b : ℕ) (c : Rows) : Type 0 where
  pub inequalities_width : AreRows n c.inequalities
  pub equations_width : AreRows n c.equations
  pub inequalities : HaveEntriesUpTo b c.inequalities
  pub equations : HaveEntriesUpTo b c.equations

-- a cone with rows of n entries up to b, and its lineality basis and rays with entries up to m
pub record IsSmallCone (n b m : ℕ) (c : RowsAndRays) : Type 0 where
  pub ambient : c.ambient ≡ n
  pub rows : IsSmallSystem n b (rows_of c)
  pub are_rays : IsRays n c.inequalities c.equations c.lineality c.rays
  pub lineality : HaveEntriesUpTo m c.lineality
  pub rays : HaveEntriesUpTo m c.rays

-- where there is room by these bounds, no operation of finding the rays leaves the range
abbrev pub SystemsWithRoomStayWithinLimits : Type 0
SystemsWithRoomStayWithinLimits = (n b : ℕ) (c : Rows) → 1 ≤ n → 1 ≤ b → IsSmallSystem n b c → has_room n b (length c.inequalities) ≡ true →
    AreRaysWithinLimits n c.inequalities c.equations

-- there is room for three variables and no inequality with entries up to 3, one up to 2, two up to 1; for two variables and two up to 50
abbrev pub SmallSystemsHaveRoom : Type 0
SmallSystemsHaveRoom = (has_room 3 3 0 ≡ true) × (has_room 3 2 1 ≡ true) × (has_room 3 1 2 ≡ true) × (has_room 2 50 2 ≡ true)

-- the lineality space is zero
abbrev pub IsPointed : ℕ → List (List ℤ) → Type 0
IsPointed n rows = (x : List ℤ) → length x ≡ n → ((h : List ℤ) → Contains rows h → dot h x ≡ pos 0) → x ≡ zeros n

-- one of the unit vectors
pub record IsUnitRow (n : ℕ) (h : List ℤ) : Type 0 where
  pub index : ℕ
  pub inside : index < n
  pub is : h ≡ slice_index_or (unit_vectors n) index []

-- the first so many rows are such
abbrev pub BeginWithUnits : ℕ → ℕ → List (List ℤ) → Type 0
BeginWithUnits n count rows = (k : ℕ) → k < count → k < length rows → IsUnitRow n (slice_index_or rows k [])

-- where these bounds have room for the rows behind the unit vectors, no operation of finding the rays leaves the range
abbrev pub SmallSystemsStayWithinLimits : Type 0
SmallSystemsStayWithinLimits = (n b count : ℕ) (rows : List (List ℤ)) → 1 ≤ n → 1 ≤ b → AreRows n rows → HaveEntriesUpTo b rows → IsPointed n rows →
    BeginWithUnits n count rows →
    reached_bound n b (length rows - count) < 2 ^ 127 → turned_bound b n < 2 ^ 127 → AreRaysWithinLimits n rows []

-- so for the part of the positive orthant on which some more rows aren't negative
abbrev pub PartsOfOrthantsStayWithinLimits : Type 0
PartsOfOrthantsStayWithinLimits = (n b : ℕ) (more : List (List ℤ)) → 1 ≤ n → 1 ≤ b → AreRows n more → HaveEntriesUpTo b more →
    reached_bound n b (length more) < 2 ^ 127 → turned_bound b n < 2 ^ 127 → AreRaysWithinLimits n (unit_vectors n ++ more) []

-- and so for three variables and two more rows with entries up to 30000
abbrev pub TwoRowsOfThreeVariables : Type 0
TwoRowsOfThreeVariables = (g h : List ℤ) → AreRows 3 (g ∷ h ∷ []) → HaveEntriesUpTo 30000 (g ∷ h ∷ []) → AreRaysWithinLimits 3 (unit_vectors 3 ++ g ∷ h ∷ []) []

-- where there is room behind the rays of a cone, no operation of taking in more inequalities after them leaves the range
abbrev pub FurtherRowsStayWithinLimits : Type 0
FurtherRowsStayWithinLimits = (n b m : ℕ) (c : RowsAndRays) (more : List (List ℤ)) → 1 ≤ n → 1 ≤ b → 1 ≤ m → IsSmallCone n b m c → AreRows n more →
    HaveEntriesUpTo b more →
    fits (turned_bound b n) ≡ true → rows_fit n b (length more) true (length c.lineality) m ≡ true → AreFurtherWithinLimits c more

-- in three variables, behind vectors with entries up to 1, there is room for two rows up to 30000 where no lineality vector is, and up to 1000 where one is
abbrev pub ConesHaveRoom : Type 0
ConesHaveRoom = (rows_fit 3 30000 2 true 0 1 ≡ true) × (fits (turned_bound 30000 3) ≡ true) × (rows_fit 3 1000 2 true 1 1 ≡ true) ×
    (fits (turned_bound 1000 3) ≡ true)
