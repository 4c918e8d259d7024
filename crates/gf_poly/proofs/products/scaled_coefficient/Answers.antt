use Rattle.gf_poly.proofs.ProductLaws.{quotient_turned}
use Rattle.gf_poly.proofs.products.scaled_coefficient.Goals as goal

pub returns-in-Over-clause-value : goal.returns-in-Over-clause-value
returns-in-Over-clause-value c = rw c.in-Over.is (quotient_turned c.args.c.now c.args.by.now c.div.result c.div.ensures.quotient)
