use Rattle.std.proofs.Common.{◌≤◌, length}
use Rattle.gf_whole_division.proofs.members.index_of.Given as goal

abbrev pub invariant-terms : goal.invariant-terms
invariant-terms l = l.i ≤ length l.terms

abbrev pub decreases-terms : goal.decreases-terms
decreases-terms l = l.i
