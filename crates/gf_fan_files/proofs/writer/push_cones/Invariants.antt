use Rattle.std.proofs.Common.{◌≡◌, ◌++◌, None, drop}
use Rattle.gf_fan_files.specs.FanWords.{lines_text, cone_lines}
use Rattle.gf_fan_files.proofs.writer.push_cones.Given as goal

abbrev pub invariant-loop-cone : goal.invariant-loop-cone
invariant-loop-cone l = l.out.items ++ lines_text (cone_lines l.before (drop l.cone-index l.cones)) ≡ l.initial.out.items ++
    lines_text (cone_lines None l.cones)
