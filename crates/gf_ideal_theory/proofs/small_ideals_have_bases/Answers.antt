use Rattle.gf_ideal_theory.proofs.SmallBases.{small_ideals_have_bases as law}
use Rattle.gf_ideal_theory.proofs.small_ideals_have_bases.Goals as goal

pub returns : goal.returns
returns c = law
