use Rattle.gf_reverse_theory.proofs.LawsHold.{crossings_fall}
use Rattle.gf_reverse_theory.proofs.crossings_fall.Goals as goal

pub returns : goal.returns
returns c = crossings_fall
