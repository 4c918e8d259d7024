use Rattle.std.specs.Prelude.{take}
use Rattle.gf_poly.specs.Marking.{polys}
use Rattle.gfan_common.specs.Forms.{generators_of}
use Rattle.gfan_sets.specs.Containment.{AllAreMembers}
use Rattle.gfan_sets.proofs.containment.contains_all.Given as goal

abbrev pub invariant-polynomials : goal.invariant-polynomials
invariant-polynomials l = AllAreMembers l.basis.variables (polys l.basis.items) (generators_of (take l.i l.set))
