use Rattle.gf_bases_theory.proofs.LawsHold.{bases_are_told_by_marks}
use Rattle.gf_bases_theory.proofs.bases_are_told_by_marks.Goals as goal

pub returns : goal.returns
returns c = bases_are_told_by_marks
