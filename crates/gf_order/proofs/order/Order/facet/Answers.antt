use Rattle.gf_exponents_theory.proofs.WholeWeightLaws.{length-losses}
use Rattle.gf_order.proofs.order.Order.facet.Goals as goal

pub returns-clause-entries : goal.returns-clause-entries
returns-clause-entries c = length-losses c.args.normal
