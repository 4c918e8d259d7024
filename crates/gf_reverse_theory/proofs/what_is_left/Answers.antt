use Rattle.gf_reverse_theory.proofs.LawsHold.{what_is_left}
use Rattle.gf_reverse_theory.proofs.what_is_left.Goals as goal

pub returns : goal.returns
returns c = what_is_left
