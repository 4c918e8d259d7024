use Rattle.gf_saturation_theory.proofs.LawsHold.{monomials_are_told}
use Rattle.gf_saturation_theory.proofs.monomials_are_told.Goals as goal

pub returns : goal.returns
returns c = monomials_are_told
