use Rattle.gf_binomials_theory.proofs.LawsHold.{principal_runs_are_short as law}
use Rattle.gf_binomials_theory.proofs.principal_runs_are_short.Goals as goal

pub returns : goal.returns
returns c = law
