use Rattle.gf_division.specs.Chains.{AreMissed}
use Rattle.gf_division.proofs.chains.are_missed.Given as goal

abbrev pub invariant-members : goal.invariant-members
invariant-members l = AreMissed l.by l.i l.x l.z
