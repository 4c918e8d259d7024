use Rattle.std.proofs.Common.{ℕ, ◌≤◌, max}
use Rattle.std.specs.Int.{IsGcd}
use Rattle.gf_gcd.proofs.divisor.narrow_gcd.Given as goal

-- what divides both now is what divided both at first, and neither has grown
abbrev pub invariant-steps : goal.invariant-steps
invariant-steps l = ((g : ℕ) → IsGcd l.x l.y g → IsGcd l.fn.a l.fn.b g) × (l.x ≤ max l.fn.a l.fn.b) × (l.y ≤ max l.fn.a l.fn.b)

abbrev pub decreases-steps : goal.decreases-steps
decreases-steps l = l.y
