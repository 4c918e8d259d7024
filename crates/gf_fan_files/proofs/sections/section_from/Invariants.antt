use Rattle.std.proofs.Common.{◌≡◌, ◌≤◌, length}
use Rattle.gf_fan_files.specs.Lines.{sections_from}
use Rattle.gf_fan_files.proofs.sections.section_from.Given as goal

abbrev pub invariant-loop-start : goal.invariant-loop-start
invariant-loop-start l = record {
  within : l.place ≤ length l.source;
  same : (sections_from l.source l.place).all ≡ (sections_from l.source l.at).all;
}

abbrev pub decreases-loop-start : goal.decreases-loop-start
decreases-loop-start l = length (sections_from l.source l.place).front
