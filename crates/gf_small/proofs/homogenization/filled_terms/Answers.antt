use Rattle.std.proofs.Common.{◌<◌, ℕ, arith, sym, subst}
use Rattle.std.proofs.lemmas.Result.{err_from_is_err_and}
use Rattle.gf_poly.specs.declared.TheConstants.{ROOM}
use Rattle.gf_poly.proofs.ProductLaws.{HasVariables-at}
use Rattle.gf_small.proofs.HomogenizationLaws.{degree_at, filled-past, filled-more}
use Rattle.gf_small.proofs.homogenization.filled_terms.Goals as goal

pub filled_term-requires-clause-room : goal.filled_term-requires-clause-room
filled_term-requires-clause-room c = subst (λ (k : ℕ). k < ROOM) (sym (HasVariables-at c.requires.room.0 c.args.terms.now c.terms.i c.index-terms-i.result
    c.terms-test.true c.index-terms-i.is c.requires.room.1.1)) c.requires.room.1.0

pub filled_term-requires-clause-below : goal.filled_term-requires-clause-below
filled_term-requires-clause-below c = omega (
  arith,
  degree_at c.args.terms.now c.terms.i c.index-terms-i.result c.terms-test.true c.index-terms-i.is,
  c.requires.below,
)

pub returns-in_err-t-clause-cause : goal.returns-in_err-t-clause-cause
returns-in_err-t-clause-cause c =
    let p = err_from_is_err_and c.from_residual-in_err-t.result c.from_residual-in_err-t.ensures.1 in
    rw (p.1, p.2) (filled-past c.args.d c.args.terms.now c.terms.all.items c.terms.i c.index-terms-i.result c.in_err-t.field-0.0 c.terms-test.true
    c.index-terms-i.is c.in_err-t.ensures.past c.terms.invariant)

pub terms-preserved : goal.terms-preserved
terms-preserved c = filled-more c.args.d c.args.terms.now c.terms.all.items c.push.new.self.items c.terms.i c.index-terms-i.result c.in_ok-t.t c.terms-test.true
    c.index-terms-i.is c.in_ok-t.ensures.value c.in_ok-t.ensures.fits c.in_ok-push.ensures.items c.terms.invariant
