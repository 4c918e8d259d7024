use Rattle.gf_facets_theory.proofs.LawsHold.{weights_are_solutions}
use Rattle.gf_facets_theory.proofs.weights_are_solutions.Goals as goal

pub returns : goal.returns
returns c = weights_are_solutions
