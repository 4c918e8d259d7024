use Rattle.gf_reverse_theory.proofs.LawsHold.{bases_have_paths}
use Rattle.gf_reverse_theory.proofs.bases_have_paths.Goals as goal

pub returns : goal.returns
returns c = bases_have_paths
