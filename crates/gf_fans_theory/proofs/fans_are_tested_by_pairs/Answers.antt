use Rattle.gf_fans_theory.proofs.LawsHold.{fans_are_tested_by_pairs}
use Rattle.gf_fans_theory.proofs.fans_are_tested_by_pairs.Goals as goal

pub returns : goal.returns
returns c = fans_are_tested_by_pairs
