use Rattle.gf_exponents_theory.proofs.LawsHold.{comparisons}
use Rattle.gf_exponents_theory.proofs.comparisons_are_orders.Goals as goal

pub returns : goal.returns
returns c = comparisons
