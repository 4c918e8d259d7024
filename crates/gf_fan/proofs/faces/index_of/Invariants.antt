use Rattle.std.proofs.Common.{◌≡◌, ◌∷◌, take}
use Rattle.gf_fan.proofs.faces.index_of.Given as goal

abbrev pub invariant-loop-i : goal.invariant-loop-i
invariant-loop-i l = l.out.items ≡ l.dim ∷ take l.i-index l.numbers
