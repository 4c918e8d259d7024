use Rattle.gf_lists_theory.proofs.OneListLaws.{one_list, one_list_in}
use Rattle.gf_lists_theory.proofs.lists_are_one.Goals as goal

pub returns-clause-everywhere : goal.returns-clause-everywhere
returns-clause-everywhere c = one_list

pub returns-clause-regions : goal.returns-clause-regions
returns-clause-regions c = one_list_in
