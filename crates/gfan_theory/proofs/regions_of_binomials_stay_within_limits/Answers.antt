use Rattle.gfan_theory.proofs.EverydayLaws.{regions_of_binomials}
use Rattle.gfan_theory.proofs.regions_of_binomials_stay_within_limits.Goals as goal

pub returns : goal.returns
returns c = regions_of_binomials
