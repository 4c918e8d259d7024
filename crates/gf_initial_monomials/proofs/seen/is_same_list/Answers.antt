use Rattle.std.proofs.Common.{arith}
use Rattle.gf_initial_monomials.proofs.SameLaws.{same_more, same_all}
use Rattle.gf_initial_monomials.proofs.seen.is_same_list.Goals as goal

pub polynomials-preserved : goal.polynomials-preserved
polynomials-preserved c = same_more c.args.fs.now c.args.gs.now c.polynomials.i c.index-fs-i.result c.index-gs-i.result c.polynomials-test.true
    (omega (arith, c.polynomials-test.true, c.if-fs-gs.false)) c.index-fs-i.is c.index-gs-i.is (c.is_same_poly.ensures c.if-not-is_same_poly.false)
    c.polynomials.invariant

pub returns : goal.returns
returns c = λ yes. same_all c.args.fs.now c.args.gs.now c.polynomials.i c.polynomials-test.false
    (omega (arith, c.polynomials-test.false, c.if-fs-gs.false)) c.polynomials.invariant
