use Rattle.gfan_theory.proofs.ListSourceLaws.{one_region_text}
use Rattle.gfan_theory.proofs.laws.regions_have_one_text.Goals as goal

pub returns : goal.returns
returns c = one_region_text
