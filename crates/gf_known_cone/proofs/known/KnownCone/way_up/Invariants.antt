use Rattle.std.proofs.Common.{◌≡◌, ◌<◌, ℕ}
use Rattle.gf_known_cone.specs.Ways.{LeadsUpAt}
use Rattle.gf_known_cone.proofs.known.KnownCone.way_up.Given as goal

abbrev pub invariant-loop-index : goal.invariant-loop-index
invariant-loop-index l = record { same : l.self ≡ l.initial.self; none : (j : ℕ) → j < l.index → LeadsUpAt l.region.root l.self j → ⊥ }
