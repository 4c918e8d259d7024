-- Cones of which no operation of making their fan leaves the range, by bounds on their rows.
use Rattle.std.specs.Prelude.{◌≡◌, ℕ, ◌+◌, ◌<◌, ◌≤◌, List, true, length, Contains, slice_index_or}
use Rattle.gf_rays.specs.Cones.{RowsAndRays, rows_of}
use Rattle.gf_rays.specs.Limits.{IsSmallSystem, has_room}
use Rattle.gf_fan.specs.Refusals.{IsFanWithinLimits}

-- there is room for the rows of each cone, for those of any two, and for none
pub record HaveRoom (n b : ℕ) (given : List RowsAndRays) : Type 0 where
  pub own : (c : RowsAndRays) → Contains given c → has_room n b (length c.inequalities) ≡ true
  pub pairs : (i j : ℕ) (c d : RowsAndRays) → i < j → j < length given → slice_index_or given i c ≡ c → slice_index_or given j d ≡ d →
      has_room n b (length c.inequalities + length d.inequalities) ≡ true
  pub none : has_room n b 0 ≡ true

-- where there is, no operation of making the fan leaves the range
abbrev pub FansWithRoomStayWithinLimits : Type 0
FansWithRoomStayWithinLimits = (n b : ℕ) (given : List RowsAndRays) → 1 ≤ n → 1 ≤ b → ((c : RowsAndRays) → Contains given c → IsSmallSystem n b (rows_of c)) →
    HaveRoom n b given → IsFanWithinLimits n given
