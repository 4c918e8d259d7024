use Rattle.std.proofs.Common.{sym, ◌∙◌}
use Rattle.gf_poly.proofs.CoefficientLaws.{skipped_at, found_at, passed_at}
use Rattle.gf_poly.proofs.polynomial.found.Goals as goal

pub terms-preserved : goal.terms-preserved
terms-preserved c = skipped_at _ _ _ c.index-terms-i.result c.terms-test.true c.index-terms-i.is (sym c.in-Greater.ensures) c.terms.invariant

pub returns-in-Equal : goal.returns-in-Equal
returns-in-Equal c = found_at _ _ _ c.index-terms-i.result c.terms-test.true c.index-terms-i.is (sym c.in-Equal.ensures) c.terms.invariant

pub returns-in-Less : goal.returns-in-Less
returns-in-Less c = c.zero_coefficient.ensures ∙ passed_at _ _ _ c.index-terms-i.result c.terms-test.true c.index-terms-i.is (sym c.in-Less.ensures)
    c.terms.invariant
