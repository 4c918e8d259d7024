use Rattle.gfan_theory.proofs.OneTextLaws.{one_ideal}
use Rattle.gfan_theory.proofs.one_ideal_has_one_text.Goals as goal

pub returns : goal.returns
returns c = one_ideal
