use Rattle.gf_poly.proofs.MonomialLaws.{IsBelowSoFar-more, IsBelowSoFar-end, not_divides_at}
use Rattle.std.proofs.Common.{refl}
use Rattle.gf_poly.proofs.monomial.is_below.Goals as goal

pub returns-then-y-i : goal.returns-then-y-i
returns-then-y-i c = (λ h. absurd (cc), λ d. absurd (not_divides_at c.args.x.now c.args.y.now c.entries.i c.if-y-i.true d))

pub entries-preserved : goal.entries-preserved
entries-preserved c = IsBelowSoFar-more c.args.x.now c.args.y.now c.entries.i c.if-y-i.false c.entries.invariant

pub returns : goal.returns
returns c = (λ h. IsBelowSoFar-end c.args.x.now c.args.y.now c.entries.i c.entries-test.false c.entries.invariant, λ d. refl)
