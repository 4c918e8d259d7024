use Rattle.gf_initial_theory.proofs.LawsHold.{flips_give_neighbours}
use Rattle.gf_initial_theory.proofs.flips_give_neighbours.Goals as goal

pub returns : goal.returns
returns c = flips_give_neighbours
