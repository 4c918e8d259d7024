use Rattle.gfan_theory.proofs.LinearFans.{fans_of_linear_sets_fit}
use Rattle.gfan_theory.proofs.fans_of_linear_sets_fit.Goals as goal

pub returns : goal.returns
returns c = fans_of_linear_sets_fit
