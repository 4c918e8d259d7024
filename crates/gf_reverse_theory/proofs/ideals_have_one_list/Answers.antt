use Rattle.gf_reverse_theory.proofs.LawsHold.{ideals_have_one_list}
use Rattle.gf_reverse_theory.proofs.ideals_have_one_list.Goals as goal

pub returns : goal.returns
returns c = ideals_have_one_list
