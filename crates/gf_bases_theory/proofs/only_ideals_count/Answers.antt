use Rattle.gf_bases_theory.proofs.LawsHold.{only_ideals_count}
use Rattle.gf_bases_theory.proofs.only_ideals_count.Goals as goal

pub returns : goal.returns
returns c = only_ideals_count
