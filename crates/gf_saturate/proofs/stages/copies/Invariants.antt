use Rattle.std.proofs.Common.{◌≡◌, take}
use Rattle.gf_saturate.proofs.stages.copies.Given as goal

abbrev pub invariant-polynomials : goal.invariant-polynomials
invariant-polynomials l = l.all.items ≡ take l.i l.set
