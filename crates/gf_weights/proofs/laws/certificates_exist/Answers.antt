use Rattle.gf_weights.proofs.LawsHold.{certificates_exist}
use Rattle.gf_weights.proofs.laws.certificates_exist.Goals as goal

pub returns : goal.returns
returns c = certificates_exist
