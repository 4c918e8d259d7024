use Rattle.std.proofs.Common.{◌<◌, ℕ}
use Rattle.gf_known_cone.specs.Ways.{LeadsUpAt}
use Rattle.gf_known_cone.proofs.known.KnownCone.way.Given as goal

abbrev pub invariant-loop-place : goal.invariant-loop-place
invariant-loop-place l = record { none : (j : ℕ) → j < l.place → LeadsUpAt l.region.root l.self j → ⊥ }
