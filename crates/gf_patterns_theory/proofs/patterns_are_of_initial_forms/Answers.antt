use Rattle.gf_patterns_theory.proofs.LawsHold.{patterns_are_of_initial_forms}
use Rattle.gf_patterns_theory.proofs.patterns_are_of_initial_forms.Goals as goal

pub returns : goal.returns
returns c = patterns_are_of_initial_forms
