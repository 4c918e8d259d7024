use Rattle.gfan_theory.proofs.EverydayLaws.{certificates_of_variables}
use Rattle.gfan_theory.proofs.certificates_of_variables_stay_within_limits.Goals as goal

pub returns : goal.returns
returns c = certificates_of_variables
