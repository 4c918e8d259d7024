use Rattle.gf_binomial_calls_theory.proofs.LawsHold.{refusals_tell_no_overflow as law}
use Rattle.gf_binomial_calls_theory.proofs.refusals_tell_no_overflow.Goals as goal

pub returns : goal.returns
returns c = law
