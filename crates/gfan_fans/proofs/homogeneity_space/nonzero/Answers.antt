use Rattle.gfan_fans.proofs.HomogeneitySpaceLaws.{nonzero_more}
use Rattle.gfan_fans.proofs.homogeneity_space.nonzero.Goals as goal

pub polynomials-preserved : goal.polynomials-preserved
polynomials-preserved c =
    nonzero_more c.args.set.now c.polynomials.read-index c.read-item.result c.polynomials.found.items c.push_nonzero.new.found.items c.polynomials-test.true
    c.read-item.is c.in_ok-push_nonzero.ensures c.polynomials.invariant
