use Rattle.gf_cone.proofs.CrossingLaws.{decided_crossing}
use Rattle.gf_known_cone.proofs.known.KnownCone.crossing.Goals as goal

pub returns-clause-told : goal.returns-clause-told
returns-clause-told c = decided_crossing c.args.self.now c.args.index c.requires c.found.result c.found.ensures.yes c.found.ensures.no
