use Rattle.gf_ideal_theory.proofs.LawsOfBasesHold.{bases_go_by_their_marks as law}
use Rattle.gf_ideal_theory.proofs.bases_go_by_their_marks.Goals as goal

pub returns : goal.returns
returns c = law
