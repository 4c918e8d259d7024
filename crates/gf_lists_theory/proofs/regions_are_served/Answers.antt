use Rattle.gf_lists_theory.proofs.BasesListLaws.{regions_are_served}
use Rattle.gf_lists_theory.proofs.regions_are_served.Goals as goal

pub returns : goal.returns
returns c = regions_are_served
