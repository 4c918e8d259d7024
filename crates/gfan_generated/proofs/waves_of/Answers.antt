use Rattle.std.proofs.Common.{sym, subst}
use Rattle.gf_facets_theory.specs.Regions.{Region}
use Rattle.gf_reverse_theory.specs.Upward.{IsNode}
use Rattle.gf_cone.proofs.RegionLaws.{positive_is}
use Rattle.gfan_generated.proofs.waves_of.Goals as goal

pub new-requires-clause-basis : goal.new-requires-clause-basis
new-requires-clause-basis g c κs within =
    subst (λ (k : Region). IsNode k c.args.root) (sym (positive_is c.args.root.variables c.variables.result c.in_ok-region.region c.variables.ensures
    c.in_ok-region.ensures)) c.requires.basis
