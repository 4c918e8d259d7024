use Rattle.std.proofs.Common.{length}
use Rattle.std.proofs.Common.{◌≡◌, ◌∙◌, ap, sym, rules}
use Rattle.gf_frac.specs.Fraction.{whole}
use Rattle.gf_whole_division.proofs.ReductionLaws.{multiple_empty, no_items}
use Rattle.gf_whole_division.proofs.ValueLaws.{quotient_more, quotients_all}
use Rattle.gf_whole_division.proofs.remainders.narrowed.Goals as goal

pub terms-preserved : goal.terms-preserved
terms-preserved c =
    quotient_more c.in_ok-by.by c.args.terms.now c.terms.out.items c.push.new.self.items c.terms.i c.index-terms-i.result c.in_ok-coef.coef
    c.copy-mono.result c.in_ok-by.ensures
    c.terms-test.true c.index-terms-i.is (ap whole (sym c.coef-in-terms.ensures) ∙ c.in_ok-coef.ensures) (c.copy-mono.ensures ∙ c.mono.ensures)
    c.in_ok-push.ensures.items c.terms.invariant

pub returns : goal.returns
returns c =
    quotients_all c.in_ok-by.by c.args.terms.now c.terms.out.items c.in_ok-narrow.narrow c.terms.i c.in_ok-by.ensures c.terms-test.false
    c.in_ok-narrow.ensures.value c.terms.invariant

pub returns-then-is_empty : goal.returns-then-is_empty
returns-then-is_empty c =
    let e : length c.args.terms.now ≡ 0 = search rules in
    multiple_empty c.args.terms.now c.zero.result (no_items c.args.terms.now e) c.zero.ensures
