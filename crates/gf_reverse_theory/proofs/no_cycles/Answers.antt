use Rattle.gf_reverse_theory.proofs.LawsHold.{no_cycles}
use Rattle.gf_reverse_theory.proofs.no_cycles.Goals as goal

pub returns : goal.returns
returns c = no_cycles
