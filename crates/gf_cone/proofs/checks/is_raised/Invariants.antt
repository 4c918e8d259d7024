use Rattle.std.proofs.Common.{ℕ, ◌<◌, pos, get_or, length, ◌≡◌, ◌+ℤ◌}
use Rattle.gf_facets_theory.specs.Systems.{unit}
use Rattle.gf_cone.proofs.checks.is_raised.Given as goal

abbrev pub invariant-loop-i : goal.invariant-loop-i
invariant-loop-i l = (k : ℕ) → k < l.i → get_or l.a k (pos 0) ≡ get_or l.b k (pos 0) +ℤ get_or (unit (length l.a) l.at) k (pos 0)
