-- Fans of which no operation of finding the common refinement leaves the range, by bounds on their rows.
use Rattle.std.specs.Prelude.{◌≡◌, ℕ, ◌+◌, ◌≤◌, true, length, Contains}
use Rattle.gf_rays.specs.Cones.{rows_of}
use Rattle.gf_rays.specs.Limits.{IsSmallSystem, has_room}
use Rattle.gf_fan.specs.declared.cones.FanCone.{FanCone}
use Rattle.gf_fan.specs.FanLists.{FanLists}
use Rattle.gf_fan.specs.MaximalCones.{maximal_of}
use Rattle.gf_refine.specs.Refusals.{IsRefinedWithinLimits}

-- the rows of each maximal cone are small
abbrev pub AreSmallCones : ℕ → ℕ → FanLists → Type 0
AreSmallCones n b f = (k : FanCone) → Contains (maximal_of f) k → IsSmallSystem n b (rows_of k.cone)

-- where they are, and there is room for the rows of a maximal cone of the one and of one of the other, no operation leaves the range
abbrev pub RefinementsWithRoomStayWithinLimits : Type 0
RefinementsWithRoomStayWithinLimits = (n b : ℕ) (f g : FanLists) → 1 ≤ n → 1 ≤ b → f.ambient ≡ n → AreSmallCones n b f → AreSmallCones n b g →
    ((k l : FanCone) → Contains (maximal_of f) k → Contains (maximal_of g) l → has_room n b (length k.cone.inequalities + length l.cone.inequalities) ≡ true) →
    has_room n b 0 ≡ true → IsRefinedWithinLimits f g
