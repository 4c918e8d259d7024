use Rattle.gf_division.proofs.NeededLaws.{Forming}
use Rattle.gf_wide_division.proofs.autoreduction.needed_forms.Given as goal

abbrev pub invariant-members : goal.invariant-members
invariant-members l = Forming l.items l.i l.forms.items
