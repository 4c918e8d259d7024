use Rattle.gfan_theory.proofs.ServedListLaws.{lists_serve}
use Rattle.gfan_theory.proofs.laws.written_lists_serve.Goals as goal

pub returns : goal.returns
returns c = lists_serve
