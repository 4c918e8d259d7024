use Rattle.std.proofs.Common.{sym, ◌∙◌, subst}
use Rattle.gf_poly.specs.Polynomial.{IsDescending}
use Rattle.gf_wide_division.proofs.ValueLaws.{narrowed_term, all_narrowed}
use Rattle.gf_wide_division.proofs.polynomial.WidePoly.narrowed.Goals as goal

pub terms-preserved : goal.terms-preserved
terms-preserved c = narrowed_term c.terms-terms.result.now c.terms.out.items c.push.new.self.items c.terms.i c.index-terms-i.result c.in_ok-coef.coef
    c.copy-mono.result c.terms-test.true c.index-terms-i.is c.in_ok-coef.ensures c.copy-mono.ensures c.in_ok-push.ensures.items c.terms.invariant

pub from_descending-requires : goal.from_descending-requires
from_descending-requires c =
    subst IsDescending (sym (all_narrowed c.terms-terms.result.now c.args.self.now c.terms.out.items c.terms.i c.terms-terms.ensures.value c.terms-test.false
    c.terms.invariant)) c.terms-terms.ensures.descending

pub returns : goal.returns
returns c = c.from_descending.ensures ∙ all_narrowed c.terms-terms.result.now c.args.self.now c.terms.out.items c.terms.i c.terms-terms.ensures.value
    c.terms-test.false c.terms.invariant
