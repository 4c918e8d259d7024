use Rattle.gf_reverse_theory.proofs.LawsHold.{the_tree_is_finite}
use Rattle.gf_reverse_theory.proofs.the_tree_is_finite.Goals as goal

pub returns : goal.returns
returns c = the_tree_is_finite
