use Rattle.gf_ideal_theory.proofs.LawsOfBasesHold.{membership_is_decided as law}
use Rattle.gf_ideal_theory.proofs.membership_is_decided.Goals as goal

pub returns : goal.returns
returns c = law
