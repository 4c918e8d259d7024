use Rattle.gf_basis_states.proofs.TrailLaws.{trails_are_determined as holds}
use Rattle.gf_basis_states.proofs.laws.trails_are_determined.Goals as goal

pub returns : goal.returns
returns c = holds
