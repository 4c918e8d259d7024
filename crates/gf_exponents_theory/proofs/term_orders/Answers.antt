use Rattle.gf_exponents_theory.proofs.LawsHold.{term_orders as law}
use Rattle.gf_exponents_theory.proofs.term_orders.Goals as goal

pub returns : goal.returns
returns c = law
