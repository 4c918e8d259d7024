use Rattle.std.proofs.Common.{ℕ}
use Rattle.gf_poly.proofs.MonomialLaws.{AreEntries}
use Rattle.gf_poly.proofs.monomial.whole.Given as goal

abbrev pub invariant-entries : goal.invariant-entries
invariant-entries l = AreEntries (λ (a b : ℕ). a) l.x l.x l.all l.i
