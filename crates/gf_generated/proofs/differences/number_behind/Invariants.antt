use Rattle.std.proofs.Common.{◌≡◌, ◌<◌}
use Rattle.gf_generated.specs.Generated.{number_after}
use Rattle.gf_generated.proofs.differences.number_behind.Given as goal

-- the number so many steps behind the first
abbrev pub invariant-steps : goal.invariant-steps
invariant-steps l = (l.at ≡ number_after l.first l.step) × (l.at < 2147483647)
