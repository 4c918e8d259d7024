use Rattle.std.proofs.Common.{take}
use Rattle.gf_exponents_theory.specs.Orders.{lighter}
use Rattle.gf_poly.specs.Marking.{Each}
use Rattle.gf_ideal_theory.specs.Marks.{IsMarked}
use Rattle.gf_tests.proofs.divisions.marks_all.Given as goal

abbrev pub invariant-members : goal.invariant-members
invariant-members l = Each (IsMarked (lighter l.weight)) (take l.i l.items)
