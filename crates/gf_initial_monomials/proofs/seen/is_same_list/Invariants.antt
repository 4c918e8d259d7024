use Rattle.std.proofs.Common.{◌≡◌, take}
use Rattle.gf_initial_monomials.proofs.seen.is_same_list.Given as goal

abbrev pub invariant-polynomials : goal.invariant-polynomials
invariant-polynomials l = take l.i l.fs ≡ take l.i l.gs
