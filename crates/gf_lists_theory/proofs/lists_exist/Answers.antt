use Rattle.gf_lists_theory.proofs.OneListLaws.{list_exists}
use Rattle.gf_lists_theory.proofs.lists_exist.Goals as goal

pub returns : goal.returns
returns c = list_exists
