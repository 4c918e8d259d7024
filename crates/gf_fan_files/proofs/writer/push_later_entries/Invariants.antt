use Rattle.std.proofs.Common.{◌≡◌, ◌++◌, ◌∷◌, take, flat_map}
use Rattle.gf_text.specs.VectorText.{entry_text}
use Rattle.gf_fan_files.proofs.writer.push_later_entries.Given as goal

abbrev pub invariant-loop-entry : goal.invariant-loop-entry
invariant-loop-entry l = l.out.items ≡ l.initial.out.items ++ flat_map (λ y. 32 ∷ entry_text y) (take l.entry-index l.entries)
