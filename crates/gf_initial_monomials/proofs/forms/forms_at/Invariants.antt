use Rattle.std.proofs.Common.{take}
use Rattle.gf_saturate.specs.Tasks.{HaveRingVariables}
use Rattle.gf_initial_monomials.specs.Outcomes.{AreFormsAt}
use Rattle.gf_initial_monomials.proofs.forms.forms_at.Given as goal

abbrev pub invariant-members : goal.invariant-members
invariant-members l = AreFormsAt l.v (take l.i l.items) l.all.items × HaveRingVariables l.basis.variables l.all.items
