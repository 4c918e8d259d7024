use Rattle.gf_back.proofs.BackLaws.{flips_lead_back as holds}
use Rattle.gf_back.proofs.laws.flips_lead_back.Goals as goal

pub returns : goal.returns
returns c = holds
