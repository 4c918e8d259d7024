use Rattle.gfan_theory.proofs.OneTextLaws.{all_texts}
use Rattle.gfan_theory.proofs.all_texts_are_one.Goals as goal

pub returns : goal.returns
returns c = all_texts
