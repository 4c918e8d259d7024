use Rattle.gf_patterns_theory.proofs.LawsHold.{meets_are_refinements}
use Rattle.gf_patterns_theory.proofs.meets_are_refinements.Goals as goal

pub returns : goal.returns
returns c = meets_are_refinements
