use Rattle.gf_division.proofs.ReducerLaws.{NoneDivides}
use Rattle.gf_whole_division.proofs.dividend.divisor_of.Given as goal

abbrev pub invariant-members : goal.invariant-members
invariant-members l = NoneDivides l.by l.j l.x
