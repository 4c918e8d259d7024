use Rattle.std.proofs.Common.{◌+◌, arith}
use Rattle.gf_poly.proofs.ProductLaws.{HasVariables-at}
use Rattle.gf_saturate.proofs.narrowing.narrowed_terms.Goals as goal

pub narrowed-requires : goal.narrowed-requires
narrowed-requires c =
    omega (arith, HasVariables-at (c.args.n + 1) c.args.terms.now c.terms.i c.index-terms-i.result c.terms-test.true c.index-terms-i.is c.requires)
