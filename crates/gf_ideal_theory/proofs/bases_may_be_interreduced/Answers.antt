use Rattle.gf_ideal_theory.proofs.LawsOfBasesHold.{bases_may_be_interreduced as law}
use Rattle.gf_ideal_theory.proofs.bases_may_be_interreduced.Goals as goal

pub returns : goal.returns
returns c = law
