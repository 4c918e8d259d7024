use Rattle.gf_exponents_theory.proofs.LawsHold.{rows as law}
use Rattle.gf_exponents_theory.proofs.rows_are_whole_weights.Goals as goal

pub returns : goal.returns
returns c = law
