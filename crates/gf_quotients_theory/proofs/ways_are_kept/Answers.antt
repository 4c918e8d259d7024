use Rattle.gf_quotients_theory.proofs.LawsHold.{ways_are_kept}
use Rattle.gf_quotients_theory.proofs.ways_are_kept.Goals as goal

pub returns : goal.returns
returns c = ways_are_kept
