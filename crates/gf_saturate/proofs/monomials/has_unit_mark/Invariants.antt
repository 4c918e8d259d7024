use Rattle.std.proofs.Common.{take}
use Rattle.gf_saturate.specs.OneTerm.{HasUnitMark}
use Rattle.gf_saturate.proofs.monomials.has_unit_mark.Given as goal

abbrev pub invariant-members : goal.invariant-members
invariant-members l = HasUnitMark (take l.i l.items) → ⊥
