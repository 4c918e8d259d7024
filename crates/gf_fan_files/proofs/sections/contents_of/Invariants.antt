use Rattle.std.proofs.Common.{◌≤◌, length}
use Rattle.gf_fan_files.specs.Lines.{sections_from}
use Rattle.gf_fan_files.proofs.SectionsLaws.{IsReadUpTo}
use Rattle.gf_fan_files.proofs.sections.contents_of.Given as goal

abbrev pub invariant-loop-start : goal.invariant-loop-start
invariant-loop-start l = record {
  within : l.at ≤ length l.source;
  read : IsReadUpTo l.source l.at l.names l.contents;
}

abbrev pub decreases-loop-start : goal.decreases-loop-start
decreases-loop-start l = length (sections_from l.source l.at).all
