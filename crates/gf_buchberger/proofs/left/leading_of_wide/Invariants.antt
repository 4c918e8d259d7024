use Rattle.std.proofs.Common.{◌<◌, length}
use Rattle.gf_buchberger.specs.Leading.{IsLeadingAt}
use Rattle.gf_buchberger.proofs.left.leading_of_wide.Given as goal

abbrev pub invariant-terms : goal.invariant-terms
invariant-terms l = (l.at < length l.f) × IsLeadingAt l.order l.f l.at l.i
