use Rattle.gf_initial_theory.proofs.LawsHold.{initial_forms_of_bases}
use Rattle.gf_initial_theory.proofs.initial_forms_of_bases.Goals as goal

pub returns : goal.returns
returns c = initial_forms_of_bases
