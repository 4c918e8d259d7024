use Rattle.std.proofs.Common.{◌≡◌, ◌++◌, flat_map, take}
use Rattle.std.specs.Prelude.{zip}
use Rattle.gfan_sets.specs.WeightVector.{later_weight_item}
use Rattle.gfan_sets.proofs.weight_vector.push_later_items.Given as goal

-- the items so far are added
abbrev pub invariant-items : goal.invariant-items
invariant-items l = l.text.items ≡ l.initial.text.items ++ flat_map (later_weight_item l.echoed l.ring) (take l.i (zip l.sets l.weights))
