use Rattle.std.proofs.Common.{ℕ, arith, refl}
use Rattle.gf_poly.proofs.MonomialLaws.{AreEntries-more, AreEntries-all, entry-get_or}
use Rattle.gf_poly.proofs.monomial.whole.Goals as goal

pub entries-preserved : goal.entries-preserved
entries-preserved c = AreEntries-more (λ (a b : ℕ). a) c.args.x.now c.args.x.now c.entries.all c.entries.i _ (omega arith)
    (omega (arith, entry-get_or c.args.x.now c.entries.i)) c.entries.invariant

pub returns : goal.returns
returns c = AreEntries-all (λ (a b : ℕ). a) c.args.x.now c.args.x.now c.args.x.now c.entries.all c.entries.i c.requires (omega arith) c.requires (λ k. refl)
    c.entries.invariant
