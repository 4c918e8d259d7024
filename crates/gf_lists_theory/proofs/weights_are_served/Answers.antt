use Rattle.gf_lists_theory.proofs.BasesListLaws.{weights_are_served}
use Rattle.gf_lists_theory.proofs.weights_are_served.Goals as goal

pub returns : goal.returns
returns c = weights_are_served
