use Rattle.gf_ideal_theory.proofs.LawsOfBasesHold.{reduced_bases_are_unique as law}
use Rattle.gf_ideal_theory.proofs.reduced_basis_is_unique.Goals as goal

pub returns : goal.returns
returns c = law
