use Rattle.std.proofs.Common.{◌≡◌, ℕ, ◌+◌, ◌<◌, ◌≤◌, length, get_or, ◌<ℤ◌}
use Rattle.gf_strands.specs.declared.strands.Point.{Point}
use Rattle.gf_strands.proofs.strands.index_for.Given as goal

abbrev pub invariant-points : goal.invariant-points
invariant-points l = (i : ℕ) (p : Point) → length l.work ≤ i + l.j → i < length l.work → p ≡ get_or l.work i p → p.k <ℤ l.k
