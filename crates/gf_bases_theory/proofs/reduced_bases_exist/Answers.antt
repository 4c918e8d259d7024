use Rattle.gf_bases_theory.proofs.LawsHold.{reduced_bases_exist}
use Rattle.gf_bases_theory.proofs.reduced_bases_exist.Goals as goal

pub returns : goal.returns
returns c = reduced_bases_exist
