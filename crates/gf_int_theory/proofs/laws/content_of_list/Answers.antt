use Rattle.gf_int_theory.proofs.ContentLaws.{IsContent-exists, IsContent-same}
use Rattle.gf_int_theory.proofs.laws.content_of_list.Goals as goal

pub returns-clause-exists : goal.returns-clause-exists
returns-clause-exists c = IsContent-exists

pub returns-clause-unique : goal.returns-clause-unique
returns-clause-unique c = IsContent-same
