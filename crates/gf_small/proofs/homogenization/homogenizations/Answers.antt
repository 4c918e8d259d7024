use Rattle.std.proofs.lemmas.Result.{err_from_is_err_and}
use Rattle.gf_small.proofs.WrittenLaws.{in_read}
use Rattle.gf_small.proofs.HomogenizationLaws.{exponent_along, only_memory, done-past, done-more}
use Rattle.gf_small.proofs.homogenization.homogenizations.Goals as goal

pub written_homogenization-requires : goal.written_homogenization-requires
written_homogenization-requires c = (
  c.args.n,
  (
    c.requires.room,
    in_read c.args.n c.args.set.now c.polynomials.f-index c.f-item.result c.requires.variables
        c.polynomials-test.true c.f-item.is,
  ),
)

pub returns-in_err-g-clause-cause : goal.returns-in_err-g-clause-cause
returns-in_err-g-clause-cause c =
    let p = err_from_is_err_and c.from_residual-in_err-g.result c.from_residual-in_err-g.ensures.1 in
    rw (p.1, p.2) (exponent_along c.in_err-g.field-0.0 (λ o h. done-past c.args.n c.args.set.now c.polynomials.all.items c.polynomials.f-index c.f-item.result o
    c.polynomials-test.true c.f-item.is h c.polynomials.invariant) c.in_err-g.ensures.cause)

pub polynomials-preserved : goal.polynomials-preserved
polynomials-preserved c = done-more c.args.n c.args.set.now c.polynomials.all.items c.push.new.self.items c.polynomials.f-index c.f-item.result c.in_ok-g.g
    c.polynomials-test.true c.f-item.is
    (in_read c.args.n c.args.set.now c.polynomials.f-index c.f-item.result c.requires.variables c.polynomials-test.true c.f-item.is)
    c.in_ok-g.ensures.value c.in_ok-g.ensures.fits c.in_ok-push.ensures.items c.polynomials.invariant

pub returns-in_err-g-clause-complete : goal.returns-in_err-g-clause-complete
returns-in_err-g-clause-complete c = λ within.
    let p = err_from_is_err_and c.from_residual-in_err-g.result c.from_residual-in_err-g.ensures.1 in
    rw (p.1, p.2) (only_memory c.args.set.now c.in_err-g.field-0.0 within
    (exponent_along c.in_err-g.field-0.0 (λ o h. done-past c.args.n c.args.set.now c.polynomials.all.items c.polynomials.f-index c.f-item.result o
    c.polynomials-test.true c.f-item.is h c.polynomials.invariant) c.in_err-g.ensures.cause))
