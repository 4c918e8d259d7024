use Rattle.gf_reduced.proofs.TermLaws.{NoneDivided}
use Rattle.gf_reduced.proofs.terms.is_divided.Given as goal

abbrev pub invariant-members : goal.invariant-members
invariant-members l = NoneDivided l.items l.i l.x l.is_marked l.j
