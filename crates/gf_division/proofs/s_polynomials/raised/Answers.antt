use Rattle.std.proofs.Common.{sym, subst, length}
use Rattle.std.proofs.lemmas.Result.{err_from_is_err_and}
use Rattle.gf_poly.specs.Polynomial.{HasVariables}
use Rattle.gf_poly.proofs.ProductLaws.{HasVariables-at}
use Rattle.gf_division.specs.SPolynomials.{IsRaised}
use Rattle.gf_division.proofs.SPolynomialLaws.{raised-more, raised_at_end, raised_refused}
use Rattle.gf_division.proofs.s_polynomials.raised.Goals as goal

pub mul-requires : goal.mul-requires
mul-requires c = sym (HasVariables-at (length c.args.by.now) c.terms-terms.result.now c.terms.i c.index-terms-i.result c.terms-test.true c.index-terms-i.is
    (subst (HasVariables (length c.args.by.now)) (sym c.terms-terms.ensures.value) c.requires))

pub returns-in_err-mono-clause-cause : goal.returns-in_err-mono-clause-cause
returns-in_err-mono-clause-cause c =
    let p = err_from_is_err_and c.from_residual-in_err-mono.result c.from_residual-in_err-mono.ensures.1 in
    rw (p.1, p.2) (raised_refused c.args.by.now c.args.f.now c.terms-terms.result.now c.terms.i c.index-terms-i.result c.in_err-mono.field-0.0
    c.terms-terms.ensures.value c.terms-test.true c.index-terms-i.is c.requires c.terms-terms.ensures.descending c.in_err-mono.ensures.overflow)

pub terms-preserved : goal.terms-preserved
terms-preserved c = raised-more c.args.by.now c.terms-terms.result.now c.terms.out.items c.push.new.self.items c.terms.i c.index-terms-i.result
    c.in_ok-mono.mono c.terms-test.true c.index-terms-i.is c.in_ok-mono.ensures.product c.in_ok-push.ensures.items c.terms.invariant

pub from_descending-requires : goal.from_descending-requires
from_descending-requires c =
    let r = raised_at_end c.args.by.now c.args.f.now c.terms-terms.result.now c.terms.out.items c.terms.i c.terms-terms.ensures.value c.terms-test.false
    c.requires c.terms-terms.ensures.descending c.terms.invariant in
    r.descending

pub returns-clause-value : goal.returns-clause-value
returns-clause-value c =
    let r = raised_at_end c.args.by.now c.args.f.now c.terms-terms.result.now c.terms.out.items c.terms.i c.terms-terms.ensures.value c.terms-test.false
    c.requires c.terms-terms.ensures.descending c.terms.invariant in
    subst (IsRaised c.args.by.now c.args.f.now) (sym c.from_descending.ensures) r
