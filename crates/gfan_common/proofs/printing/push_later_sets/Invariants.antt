use Rattle.std.proofs.Common.{◌≡◌, ◌++◌, flat_map, take}
use Rattle.gfan_common.specs.Printing.{later_set_text}
use Rattle.gfan_common.proofs.printing.push_later_sets.Given as goal

-- the sets so far are added
abbrev pub invariant-sets : goal.invariant-sets
invariant-sets l = l.text.items ≡ l.initial.text.items ++ flat_map (later_set_text l.ring) (take l.set-index l.sets)
