use Rattle.std.proofs.Common.{ℕ, max}
use Rattle.gf_poly.proofs.MonomialLaws.{AreEntries}
use Rattle.gf_poly.proofs.monomial.maxima.Given as goal

abbrev pub invariant-entries : goal.invariant-entries
invariant-entries l = AreEntries (λ (a b : ℕ). max a b) l.x l.y l.all l.i
