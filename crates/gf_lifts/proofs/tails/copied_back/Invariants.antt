use Rattle.std.proofs.Common.{◌≤◌}
use Rattle.gf_lifts.specs.LiftTails.{AreCopiedFrom}
use Rattle.gf_lifts.proofs.tails.copied_back.Given as goal

abbrev pub invariant-lifts : goal.invariant-lifts
invariant-lifts l = record { copied : AreCopiedFrom l.copied l.end l.j; within : l.end ≤ l.j }
