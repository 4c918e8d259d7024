use Rattle.std.proofs.Common.{◌≡◌, length}
use Rattle.gf_saturate.specs.Graded.{IsEnoughFor}
use Rattle.gf_saturate.proofs.choice.closed.Given as goal

abbrev pub invariant-rounds : goal.invariant-rounds
invariant-rounds l = (length l.all ≡ l.n) × IsEnoughFor l.n l.set l.all l.inside
