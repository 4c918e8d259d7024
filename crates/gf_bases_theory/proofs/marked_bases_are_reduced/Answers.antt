use Rattle.gf_bases_theory.proofs.LawsHold.{marked_bases_are_reduced}
use Rattle.gf_bases_theory.proofs.marked_bases_are_reduced.Goals as goal

pub returns : goal.returns
returns c = marked_bases_are_reduced
