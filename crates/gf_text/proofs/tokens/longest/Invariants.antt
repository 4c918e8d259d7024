use Rattle.std.proofs.Common.{◌≡◌, drop, max}
use Rattle.gf_text.specs.Fronts.{AreFound}
use Rattle.gf_text.specs.Tokens.{longest}
use Rattle.gf_text.proofs.tokens.longest.Given as goal

abbrev pub invariant-loop-i : goal.invariant-loop-i
invariant-loop-i l = record {
  best : max l.best (longest (drop l.i l.names) (drop l.at l.source)) ≡ longest l.names (drop l.at l.source);
  known : AreFound l.names l.source l.found;
}
