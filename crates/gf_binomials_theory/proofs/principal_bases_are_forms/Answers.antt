use Rattle.gf_binomials_theory.proofs.LawsHold.{principal_bases_are_forms as law}
use Rattle.gf_binomials_theory.proofs.principal_bases_are_forms.Goals as goal

pub returns : goal.returns
returns c = law
