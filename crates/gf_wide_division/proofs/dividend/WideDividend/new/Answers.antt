use Rattle.std.proofs.Common.{ap, ◌∙◌}
use Rattle.gf_wide_division.specs.Dividends.{uncut}
use Rattle.gf_wide_division.proofs.ValueLaws.{widened_term, all_widened}
use Rattle.gf_wide_division.proofs.dividend.WideDividend.new.Goals as goal

pub terms-preserved : goal.terms-preserved
terms-preserved c = widened_term c.terms-all.result.now c.terms.terms.items c.push.new.self.items c.terms.i c.index-all-i.result
    (record { coef = c.new-coef.result; mono = c.copy-mono.result; waits = c.is_open-waits.result }) c.terms-test.true c.index-all-i.is c.new-coef.ensures
    c.copy-mono.ensures c.in_ok-push.ensures.items c.terms.invariant

pub returns-clause-value : goal.returns-clause-value
returns-clause-value c = ap uncut (all_widened c.terms-all.result.now c.terms.terms.items c.terms.i c.terms-test.false c.terms.invariant ∙
    c.terms-all.ensures.value)
