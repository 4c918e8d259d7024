use Rattle.gf_division.proofs.ChainLaws.{IsAlongUpTo}
use Rattle.gf_division.proofs.chains.are_along.Given as goal

abbrev pub invariant-variables : goal.invariant-variables
invariant-variables l = IsAlongUpTo l.steps l.mark l.other l.x l.z l.i
