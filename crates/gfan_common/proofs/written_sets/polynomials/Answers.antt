use Rattle.std.proofs.Common.{◌∙◌}
use Rattle.gfan_common.proofs.WrittenSetLaws.{polynomials_next}
use Rattle.gfan_common.proofs.written_sets.polynomials.Goals as goal

pub polynomials-preserved : goal.polynomials-preserved
polynomials-preserved c =
    c.in_ok-push.ensures.items ∙ polynomials_next c.args.set.now c.polynomials.i c.index-set-i.result c.polynomials.found.items c.in_ok-f.f
    c.polynomials-test.true c.index-set-i.is c.polynomials.invariant c.in_ok-f.ensures
