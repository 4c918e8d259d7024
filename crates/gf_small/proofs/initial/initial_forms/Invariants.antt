use Rattle.gf_small.proofs.InitialFormsLaws.{FormsSoFar}
use Rattle.gf_small.proofs.initial.initial_forms.Given as goal

abbrev pub invariant-polynomials : goal.invariant-polynomials
invariant-polynomials l = FormsSoFar l.vector l.set l.forms.items l.f-index
