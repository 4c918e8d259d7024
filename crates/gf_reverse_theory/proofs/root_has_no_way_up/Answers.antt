use Rattle.gf_reverse_theory.proofs.LawsHold.{root_has_no_way_up}
use Rattle.gf_reverse_theory.proofs.root_has_no_way_up.Goals as goal

pub returns : goal.returns
returns c = root_has_no_way_up
