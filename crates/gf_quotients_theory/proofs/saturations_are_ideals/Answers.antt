use Rattle.gf_quotients_theory.proofs.LawsHold.{saturations_are_ideals}
use Rattle.gf_quotients_theory.proofs.saturations_are_ideals.Goals as goal

pub returns : goal.returns
returns c = saturations_are_ideals
