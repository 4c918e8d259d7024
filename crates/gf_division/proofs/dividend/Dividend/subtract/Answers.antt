use Rattle.std.proofs.Common.{sym, subst}
use Rattle.std.proofs.lemmas.Result.{err_from_is_err_and}
use Rattle.gf_poly.proofs.ProductLaws.{HasVariables-at}
use Rattle.gf_division.specs.Dividends.{split_of, joined_terms, IsSound}
use Rattle.gf_division.proofs.SubtractionLaws.{product_nonzero, product_over, product_length, subtracting-more, factor_refused, exponent_refused}
use Rattle.gf_division.proofs.SubtractionLaws.{difference_refused}
use Rattle.gf_division.proofs.dividend.Dividend.subtract.Goals as goal

pub returns-in_err-difference-clause-cause : goal.returns-in_err-difference-clause-cause
returns-in_err-difference-clause-cause c =
    let p = err_from_is_err_and c.from_residual.result c.from_residual.ensures.1 in
    rw (p.1, p.2) (factor_refused (joined_terms (split_of c.args.self.now)) c.args.coef.now c.args.shift.now c.args.terms.now c.terms.i c.index-terms-i.result
    c.in_err-difference.field-0.0 c.terms-test.true c.index-terms-i.is c.in_err-difference.ensures.overflow)

pub mul-requires : goal.mul-requires
mul-requires c = sym (HasVariables-at _ _ _ c.index-terms-i.result c.terms-test.true c.index-terms-i.is c.requires.variables)

pub returns-in_err-mono-clause-cause : goal.returns-in_err-mono-clause-cause
returns-in_err-mono-clause-cause c =
    let p = err_from_is_err_and c.from_residual-in_err-mono.result c.from_residual-in_err-mono.ensures.1 in
    rw (p.1, p.2) (exponent_refused (joined_terms (split_of c.args.self.now)) c.args.coef.now c.args.shift.now c.args.terms.now c.terms.i c.index-terms-i.result
    c.in_err-mono.field-0.0 c.terms-test.true c.index-terms-i.is c.in_err-mono.ensures.overflow)

pub take_away-requires-clause-sound : goal.take_away-requires-clause-sound
take_away-requires-clause-sound c = subst (λ n. IsSound n (split_of c.terms.self))
    (sym (product_length c.args.shift.now c.in_ok-mono.mono c.args.terms.now c.terms.i c.index-terms-i.result c.terms-test.true c.index-terms-i.is
    c.requires.variables c.in_ok-mono.ensures.product)) c.terms.invariant.sound

pub take_away-requires-clause-over : goal.take_away-requires-clause-over
take_away-requires-clause-over c = product_over c.args.shift.now c.in_ok-mono.mono c.args.terms.now c.terms.self.above.items c.terms.i c.index-terms-i.result
    c.terms-test.true c.index-terms-i.is c.in_ok-mono.ensures.product c.terms.invariant.over

pub take_away-requires-clause-nonzero : goal.take_away-requires-clause-nonzero
take_away-requires-clause-nonzero c = product_nonzero c.args.coef.now c.in_ok-difference.difference c.args.terms.now c.terms.i c.index-terms-i.result
    c.terms-test.true c.index-terms-i.is c.requires.descending c.requires.nonzero c.in_ok-difference.ensures.value

pub returns-in_err-take_away-clause-cause : goal.returns-in_err-take_away-clause-cause
returns-in_err-take_away-clause-cause c =
    let p = err_from_is_err_and c.from_residual-in_err-take_away.result c.from_residual-in_err-take_away.ensures.1 in
    rw (p.1, p.2) (difference_refused c.args.coef.now c.args.shift.now c.args.terms.now (split_of c.args.self.now) (split_of c.terms.self)
    c.terms.i c.index-terms-i.result c.in_ok-difference.difference c.in_ok-mono.mono c.in_err-take_away.field-0.0 c.terms-test.true c.index-terms-i.is
    c.requires.variables c.requires.descending c.in_ok-difference.ensures.value c.in_ok-mono.ensures.product c.terms.invariant
    c.in_err-take_away.ensures.cause)

pub terms-preserved : goal.terms-preserved
terms-preserved c = subtracting-more c.args.coef.now c.args.shift.now c.args.terms.now (split_of c.args.self.now) (split_of c.terms.self)
    (split_of c.take_away.new.self) c.terms.i c.index-terms-i.result c.in_ok-difference.difference c.in_ok-mono.mono c.terms-test.true c.index-terms-i.is
    c.requires.variables c.requires.descending c.in_ok-difference.ensures.value c.in_ok-mono.ensures.product c.terms.invariant c.in_ok-take_away.ensures.ok
