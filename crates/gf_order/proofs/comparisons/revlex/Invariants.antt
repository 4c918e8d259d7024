use Rattle.std.proofs.Common.{◌≡◌, ◌≤◌, ℕ, length}
use Rattle.gf_exponents_theory.specs.Exponents.{entry}
use Rattle.gf_order.proofs.comparisons.revlex.Given as goal

abbrev pub invariant-entries : goal.invariant-entries
invariant-entries l = (l.i ≤ length l.x) × ((j : ℕ) → l.i ≤ j → entry l.x j ≡ entry l.y j)

abbrev pub decreases-entries : goal.decreases-entries
decreases-entries l = l.i
