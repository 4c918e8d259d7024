use Rattle.gfan_theory.proofs.ListSourceLaws.{one_text}
use Rattle.gfan_theory.proofs.laws.texts_are_one.Goals as goal

pub returns : goal.returns
returns c = one_text
