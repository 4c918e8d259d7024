use Rattle.std.proofs.Common.{◌≡◌, take}
use Rattle.gf_text.proofs.names.copied.Given as goal

abbrev pub invariant-loop-name : goal.invariant-loop-name
invariant-loop-name l = l.all.items ≡ take l.name-index l.names
