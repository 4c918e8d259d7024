use Rattle.gfan_theory.proofs.ServedListLaws.{certificates_hold}
use Rattle.gfan_theory.proofs.laws.certificates_hold.Goals as goal

pub returns : goal.returns
returns c = certificates_hold
