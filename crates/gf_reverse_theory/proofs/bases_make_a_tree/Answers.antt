use Rattle.gf_reverse_theory.proofs.LawsHold.{bases_make_a_tree}
use Rattle.gf_reverse_theory.proofs.bases_make_a_tree.Goals as goal

pub returns : goal.returns
returns c = bases_make_a_tree
