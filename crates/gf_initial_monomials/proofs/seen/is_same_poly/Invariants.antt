use Rattle.std.proofs.Common.{◌≡◌, take}
use Rattle.gf_initial_monomials.proofs.seen.is_same_poly.Given as goal

abbrev pub invariant-terms : goal.invariant-terms
invariant-terms l = take l.i l.xs ≡ take l.i l.ys
