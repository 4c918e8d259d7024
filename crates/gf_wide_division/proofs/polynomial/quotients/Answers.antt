use Rattle.std.proofs.Common.{◌∙◌}
use Rattle.gf_frac.specs.Fraction.{reciprocal_ℚ}
use Rattle.gf_frac.proofs.FractionLaws.{*ℚ_comm}
use Rattle.gf_wide_division.proofs.ValueLaws.{quotient_term}
use Rattle.gf_wide_division.proofs.MonicLaws.{quotients_all}
use Rattle.gf_wide_division.proofs.polynomial.quotients.Goals as goal

pub terms-preserved : goal.terms-preserved
terms-preserved c = quotient_term (reciprocal_ℚ c.args.by.now) c.args.terms.now c.terms.out.items c.push.new.self.items c.terms.i c.index-terms-i.result
    c.in_ok-coef.coef c.copy-mono.result c.terms-test.true c.index-terms-i.is (c.in_ok-coef.ensures ∙ *ℚ_comm c.index-terms-i.result.coef
    (reciprocal_ℚ c.args.by.now)) c.copy-mono.ensures c.in_ok-push.ensures.items c.terms.invariant

pub returns : goal.returns
returns c = quotients_all (reciprocal_ℚ c.args.by.now) c.args.terms.now c.terms.out.items c.terms.i c.terms-test.false c.terms.invariant
