use Rattle.gf_ideal_theory.proofs.LawsHold.{members_are_spanned as law}
use Rattle.gf_ideal_theory.proofs.members_are_spanned.Goals as goal

pub returns : goal.returns
returns c = law
