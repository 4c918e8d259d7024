use Rattle.std.proofs.Common.{◌≡◌, length, take}
use Rattle.gf_dividing.specs.Dividing.{DividesAll, IsGreatest}
use Rattle.gf_dividing.proofs.common.Given as goal

abbrev pub invariant-terms : goal.invariant-terms
invariant-terms l = (length l.all ≡ l.n) × DividesAll l.all (take l.i l.terms) × IsGreatest l.all (take l.i l.terms)
