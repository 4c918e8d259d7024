use Rattle.gf_exponents_theory.proofs.LawsHold.{monomial_orders as law}
use Rattle.gf_exponents_theory.proofs.monomial_orders.Goals as goal

pub returns : goal.returns
returns c = law
