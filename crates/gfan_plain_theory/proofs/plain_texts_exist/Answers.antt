use Rattle.gfan_plain_theory.proofs.PlainLaws.{plain_texts}
use Rattle.gfan_plain_theory.proofs.plain_texts_exist.Goals as goal

pub returns : goal.returns
returns c = plain_texts
