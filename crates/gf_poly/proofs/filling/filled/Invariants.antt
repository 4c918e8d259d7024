use Rattle.std.proofs.Common.{◌≡◌, length, take}
use Rattle.gf_poly.specs.declared.TheConstants.{ROOM}
use Rattle.gf_poly.proofs.filling.filled.Given as goal

-- the exponents so far
abbrev pub invariant-entries : goal.invariant-entries
invariant-entries l = (length l.all ≡ ROOM) × (take l.i l.all ≡ take l.i l.old)
