use Rattle.std.proofs.Common.{subst}
use Rattle.gf_poly.specs.Polynomial.{IsDescending}
use Rattle.gf_division.proofs.DescendingParts.{descending-front}
use Rattle.gf_division.proofs.dividend.Dividend.ascend.Goals as goal

pub returns-clause-over : goal.returns-clause-over
returns-clause-over c = c.has_passed.ensures.no c.terms-test.false (descending-front c.terms.self.above.items c.terms.invariant.passed
    (subst IsDescending c.terms.invariant.above c.requires))
