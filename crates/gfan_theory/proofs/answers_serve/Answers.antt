use Rattle.gfan_theory.proofs.ServedLaws.{answers_serve}
use Rattle.gfan_theory.proofs.answers_serve.Goals as goal

pub returns : goal.returns
returns c = answers_serve
