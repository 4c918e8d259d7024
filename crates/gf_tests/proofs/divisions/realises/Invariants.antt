use Rattle.std.proofs.Common.{take}
use Rattle.gf_poly.specs.Marking.{Each}
use Rattle.gf_ideal_theory.specs.Marks.{IsRealisedBy}
use Rattle.gf_tests.proofs.divisions.realises.Given as goal

abbrev pub invariant-members : goal.invariant-members
invariant-members l = Each (IsRealisedBy l.weight) (take l.i l.items)
