use Rattle.gf_bases_theory.proofs.LawsHold.{homogeneous_bases}
use Rattle.gf_bases_theory.proofs.homogeneous_bases.Goals as goal

pub returns : goal.returns
returns c = homogeneous_bases
