use Rattle.gf_weights.proofs.LawsHold.{certificates_are_unique}
use Rattle.gf_weights.proofs.laws.certificates_are_unique.Goals as goal

pub returns : goal.returns
returns c = certificates_are_unique
