use Rattle.std.proofs.Common.{◌≡◌, ◌++◌, ◌∷◌, [], take, flat_map}
use Rattle.gf_fan_files.specs.FanWords.{spaced_entries}
use Rattle.gf_fan_files.proofs.writer.push_rows.Given as goal

abbrev pub invariant-loop-row : goal.invariant-loop-row
invariant-loop-row l = l.out.items ≡ l.initial.out.items ++ flat_map (λ r. spaced_entries r ++ 10 ∷ []) (take l.row-index l.rows)
