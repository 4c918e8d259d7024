use Rattle.std.proofs.Common.{map, take, ◌≡◌}
use Rattle.gf_strands.specs.Strands.{negated_point}
use Rattle.gf_strand_runs.proofs.turns.negated.Given as goal

abbrev pub invariant-points : goal.invariant-points
invariant-points l = l.all.items ≡ map negated_point (take l.i l.points)
