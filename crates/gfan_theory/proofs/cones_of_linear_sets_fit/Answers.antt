use Rattle.gfan_theory.proofs.LinearCones.{cones_of_linear_sets_fit}
use Rattle.gfan_theory.proofs.cones_of_linear_sets_fit.Goals as goal

pub returns : goal.returns
returns c = cones_of_linear_sets_fit
