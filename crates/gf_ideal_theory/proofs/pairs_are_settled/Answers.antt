use Rattle.gf_ideal_theory.proofs.LawsOfBasesHold.{pairs_are_settled as law}
use Rattle.gf_ideal_theory.proofs.pairs_are_settled.Goals as goal

pub returns : goal.returns
returns c = law
