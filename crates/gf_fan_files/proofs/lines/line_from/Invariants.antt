use Rattle.std.proofs.Common.{◌≡◌, ◌≤◌, ◌-◌, length}
use Rattle.gf_fan_files.specs.Lines.{sections_from}
use Rattle.gf_fan_files.proofs.lines.line_from.Given as goal

abbrev pub invariant-loop-place : goal.invariant-loop-place
invariant-loop-place l = record {
  within : l.place ≤ length l.source;
  same : sections_from l.source l.place ≡ sections_from l.source l.at;
}

abbrev pub decreases-loop-place : goal.decreases-loop-place
decreases-loop-place l = length l.source - l.place
