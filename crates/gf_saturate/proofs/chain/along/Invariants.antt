use Rattle.gf_saturate.specs.Chains.{IsChainIndex}
use Rattle.gf_saturate.proofs.chain.along.Given as goal

abbrev pub invariant-variables : goal.invariant-variables
invariant-variables l = IsChainIndex l.n l.set l.polys.items l.rest
