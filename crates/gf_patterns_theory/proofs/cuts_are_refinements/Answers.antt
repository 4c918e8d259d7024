use Rattle.gf_patterns_theory.proofs.LawsHold.{cuts_are_refinements}
use Rattle.gf_patterns_theory.proofs.cuts_are_refinements.Goals as goal

pub returns : goal.returns
returns c = cuts_are_refinements c.gordans_alternative.ensures
