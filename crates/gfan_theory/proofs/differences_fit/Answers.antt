use Rattle.gfan_theory.proofs.DifferenceLimits.{regions_of_differences_fit, certificates_of_differences_fit}
use Rattle.gfan_theory.proofs.differences_fit.Goals as goal

pub returns-clause-regions : goal.returns-clause-regions
returns-clause-regions c = regions_of_differences_fit

pub returns-clause-certificates : goal.returns-clause-certificates
returns-clause-certificates c = certificates_of_differences_fit
