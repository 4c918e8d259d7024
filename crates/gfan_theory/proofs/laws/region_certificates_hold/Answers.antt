use Rattle.gfan_theory.proofs.CertifiedListLaws.{certified_list_in}
use Rattle.gfan_theory.proofs.laws.region_certificates_hold.Goals as goal

pub returns : goal.returns
returns c = certified_list_in
