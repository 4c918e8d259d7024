use Rattle.std.proofs.Common.{◌≡◌, length}
use Rattle.gf_saturate.specs.Graded.{IsEnoughFor}
use Rattle.gf_saturate.proofs.choice.followed_once.Given as goal

abbrev pub invariant-polynomials : goal.invariant-polynomials
invariant-polynomials l = (length l.all ≡ l.n) × IsEnoughFor l.n l.set l.all l.inside
