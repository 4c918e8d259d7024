use Rattle.gf_ideal_theory.proofs.LawsHold.{orders_are_weights as law}
use Rattle.gf_ideal_theory.proofs.orders_are_weights.Goals as goal

pub returns : goal.returns
returns c = law
