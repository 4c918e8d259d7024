use Rattle.std.proofs.Common.{ℕ, ◌<◌, ◌≡◌, get_or, length}
use Rattle.gf_known_cone.specs.declared.known.Known.{Known}
use Rattle.gf_known_cone.specs.declared.known.Known.TheVariants.{Open}
use Rattle.gf_known_cone.proofs.known.open_entries.Given as goal

abbrev pub invariant-indices : goal.invariant-indices
invariant-indices l = record { each : length l.known.items ≡ l._i; open_at : (k : ℕ) (d : Known) → k < l._i → get_or l.known.items k d ≡ Open }
