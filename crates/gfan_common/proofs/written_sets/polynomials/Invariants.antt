use Rattle.std.proofs.Common.{◌≡◌}
use Rattle.std.specs.Prelude.{take}
use Rattle.gfan_common.specs.Forms.{generators_of}
use Rattle.gfan_common.proofs.written_sets.polynomials.Given as goal

abbrev pub invariant-polynomials : goal.invariant-polynomials
invariant-polynomials l = l.found.items ≡ generators_of (take l.i l.set)
