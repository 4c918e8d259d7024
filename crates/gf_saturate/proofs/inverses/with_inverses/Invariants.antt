use Rattle.gf_saturate.specs.Proposals.{IsStart}
use Rattle.gf_saturate.proofs.inverses.with_inverses.Given as goal

abbrev pub invariant-variables : goal.invariant-variables
invariant-variables l = IsStart l.n l.set l.polys.items
