use Rattle.std.proofs.Common.{◌≡◌, ◌++◌, drop}
use Rattle.gf_fan_files.specs.FanWords.{lines_text, ray_lines}
use Rattle.gf_fan_files.proofs.writer.push_rays.Given as goal

abbrev pub invariant-loop-number : goal.invariant-loop-number
invariant-loop-number l = l.out.items ++ lines_text (ray_lines l.number (drop l.number l.rays)) ≡ l.initial.out.items ++ lines_text (ray_lines 0 l.rays)
