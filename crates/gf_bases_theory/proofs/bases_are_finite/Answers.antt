use Rattle.gf_bases_theory.proofs.LawsHold.{bases_are_finite}
use Rattle.gf_bases_theory.proofs.bases_are_finite.Goals as goal

pub returns : goal.returns
returns c = bases_are_finite
