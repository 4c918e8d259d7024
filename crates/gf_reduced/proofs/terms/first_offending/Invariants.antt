use Rattle.gf_reduced.proofs.TermLaws.{NoneBefore}
use Rattle.gf_reduced.proofs.terms.first_offending.Given as goal

abbrev pub invariant-members : goal.invariant-members
invariant-members l = NoneBefore l.items l.i
