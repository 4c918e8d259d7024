use Rattle.gf_patterns_theory.proofs.LawsHold.{patterns_are_refined}
use Rattle.gf_patterns_theory.proofs.patterns_are_refined.Goals as goal

pub returns : goal.returns
returns c = patterns_are_refined c.gordans_alternative.ensures
