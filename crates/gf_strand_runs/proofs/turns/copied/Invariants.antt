use Rattle.std.proofs.Common.{take, ◌≡◌}
use Rattle.gf_strand_runs.proofs.turns.copied.Given as goal

abbrev pub invariant-points : goal.invariant-points
invariant-points l = l.all.items ≡ take l.i l.points
