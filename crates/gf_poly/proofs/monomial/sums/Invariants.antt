use Rattle.std.proofs.Common.{ℕ, ◌+◌}
use Rattle.gf_poly.proofs.MonomialLaws.{AreEntries, IsFitting}
use Rattle.gf_poly.proofs.monomial.sums.Given as goal

abbrev pub invariant-entries : goal.invariant-entries
invariant-entries l = record { sums : AreEntries (λ (a b : ℕ). a + b) l.x l.y l.all l.i; fit : IsFitting l.x l.y l.fits l.i }
