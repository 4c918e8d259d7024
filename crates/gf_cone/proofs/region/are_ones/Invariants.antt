use Rattle.gf_cone.proofs.RegionLaws.{AreOnesTo}
use Rattle.gf_cone.proofs.region.are_ones.Given as goal

abbrev pub invariant-entries : goal.invariant-entries
invariant-entries l = AreOnesTo l.xs l.i
