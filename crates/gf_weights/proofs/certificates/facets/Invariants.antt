use Rattle.gf_weights.specs.Cuts.{AreWitnessedBefore}
use Rattle.gf_weights.proofs.certificates.facets.Given as goal

abbrev pub invariant-indices : goal.invariant-indices
invariant-indices l = AreWitnessedBefore l.set.variables l.region l.set.items l.cut.cone l.index l.found.items
