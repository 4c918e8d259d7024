use Rattle.gfan_theory.proofs.HomogenizationLimits.{homogenizations_fit}
use Rattle.gfan_theory.proofs.homogenizations_fit.Goals as goal

pub returns : goal.returns
returns c = homogenizations_fit
