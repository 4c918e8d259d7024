use Rattle.std.proofs.Common.{subst, IsTrue}
use Rattle.gf_cone.specs.Cones.{ConeRows, HasRowsOf}
use Rattle.gf_known_cone.proofs.known.KnownCone.is_within.Goals as goal

pub returns : goal.returns
returns c = subst (λ (z : ConeRows). IsTrue c.is_within.result → HasRowsOf c.args.region.now z) c.self.view_is c.is_within.ensures
