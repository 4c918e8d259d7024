use Rattle.std.proofs.Common.{◌≡◌, take}
use Rattle.gf_text.proofs.names.DifferentNames.copied.Given as goal

abbrev pub invariant-loop-name : goal.invariant-loop-name
invariant-loop-name l = l.names.items ≡ take l.name-index l.self
