use Rattle.gf_initial_theory.proofs.LawsHold.{parts_are_initial_forms}
use Rattle.gf_initial_theory.proofs.parts_are_initial_forms.Goals as goal

pub returns : goal.returns
returns c = parts_are_initial_forms
