use Rattle.std.proofs.Common.{◌≡◌, ◌≤◌, ◌-◌, [], List, length}
use Rattle.gf_text.specs.declared.tree.WrittenTerm.{WrittenTerm}
use Rattle.gf_text.specs.Fronts.{AreFound}
use Rattle.gf_text.specs.Sets.{HasSums}
use Rattle.gf_text.proofs.SetGrowsLaws.{Reading}
use Rattle.gf_text.proofs.set_reader.sums_of_whole.Given as goal

abbrev pub invariant-loop-start : goal.invariant-loop-start
invariant-loop-start l = record {
  within : l.at ≤ length l.source;
  forward : l.from ≤ l.at;
  known : AreFound l.ring l.source l.found;
  said : List (List WrittenTerm);
  none : l.part.polynomials ≡ [];
  reading : Reading l.ring l.source l.from l.at (l.place, l.part) said;
  come : HasSums (length l.ring) said l.sums;
}

abbrev pub decreases-loop-start : goal.decreases-loop-start
decreases-loop-start l = length l.source - l.at
