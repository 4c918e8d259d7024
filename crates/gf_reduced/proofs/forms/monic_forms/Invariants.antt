use Rattle.gf_reduced.proofs.FormLaws.{Forming}
use Rattle.gf_reduced.proofs.forms.monic_forms.Given as goal

abbrev pub invariant-members : goal.invariant-members
invariant-members l = Forming l.items l.forms.items l.i
