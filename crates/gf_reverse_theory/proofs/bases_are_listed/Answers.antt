use Rattle.gf_reverse_theory.proofs.AllBasesLaws.{bases_are_listed}
use Rattle.gf_reverse_theory.proofs.bases_are_listed.Goals as goal

pub returns : goal.returns
returns c = bases_are_listed
