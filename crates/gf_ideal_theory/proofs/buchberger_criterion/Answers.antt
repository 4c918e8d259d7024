use Rattle.gf_ideal_theory.proofs.LawsOfBasesHold.{buchbergers_criterion as law}
use Rattle.gf_ideal_theory.proofs.buchberger_criterion.Goals as goal

pub returns : goal.returns
returns c = law
