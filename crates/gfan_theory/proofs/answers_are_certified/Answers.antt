use Rattle.gfan_theory.proofs.CertifiedLaws.{answers_are_certified}
use Rattle.gfan_theory.proofs.answers_are_certified.Goals as goal

pub returns : goal.returns
returns c = answers_are_certified
