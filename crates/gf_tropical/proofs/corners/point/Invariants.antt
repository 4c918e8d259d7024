use Rattle.gf_tropical.proofs.CornerLaws.{EntriesSoFar}
use Rattle.gf_tropical.proofs.corners.point.Given as goal

abbrev pub invariant-entries : goal.invariant-entries
invariant-entries l = EntriesSoFar l.powers l.entries.items l.i
