use Rattle.std.proofs.Common.{sym, subst}
use Rattle.gf_poly.proofs.ProductLaws.{HasVariables-at}
use Rattle.gf_division.specs.Dividends.{joined_terms, IsSound}
use Rattle.gf_division.proofs.SubtractionLaws.{product_nonzero, product_length, subtracting-more}
use Rattle.gf_division.proofs.TableLaws.{subtracting-none}
use Rattle.gf_wide_division.specs.Dividends.{dividend_of}
use Rattle.gf_wide_division.proofs.dividend.WideDividend.subtract.Goals as goal

pub terms-init : goal.terms-init
terms-init c = subtracting-none c.args.coef.now c.args.shift.now c.args.terms.now (joined_terms (dividend_of c.args.self.now)) c.requires.sound

pub mul-requires : goal.mul-requires
mul-requires c = sym (HasVariables-at _ _ _ c.index-terms-i.result c.terms-test.true c.index-terms-i.is c.requires.variables)

pub take_away-requires-clause-sound : goal.take_away-requires-clause-sound
take_away-requires-clause-sound c = subst (λ n. IsSound n (dividend_of c.terms.self))
    (sym (product_length c.args.shift.now c.in_ok-mono.mono c.args.terms.now c.terms.i c.index-terms-i.result c.terms-test.true c.index-terms-i.is
    c.requires.variables c.in_ok-mono.ensures.product)) c.terms.invariant.sound

pub take_away-requires-clause-nonzero : goal.take_away-requires-clause-nonzero
take_away-requires-clause-nonzero c = product_nonzero c.args.coef.now c.in_ok-difference.difference c.args.terms.now c.terms.i c.index-terms-i.result
    c.terms-test.true c.index-terms-i.is c.requires.descending c.requires.nonzero c.in_ok-difference.ensures

pub terms-preserved : goal.terms-preserved
terms-preserved c = subtracting-more c.args.coef.now c.args.shift.now c.args.terms.now (dividend_of c.args.self.now) (dividend_of c.terms.self)
    (dividend_of c.take_away.new.self) c.terms.i c.index-terms-i.result c.in_ok-difference.difference c.in_ok-mono.mono c.terms-test.true c.index-terms-i.is
    c.requires.variables c.requires.descending c.in_ok-difference.ensures c.in_ok-mono.ensures.product c.terms.invariant c.in_ok-take_away.ensures
