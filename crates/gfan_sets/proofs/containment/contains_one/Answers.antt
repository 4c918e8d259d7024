use Rattle.gf_poly.specs.Marking.{polys}
use Rattle.gfan_sets.proofs.ContainmentLaws.{zero_member}
use Rattle.gfan_sets.proofs.containment.contains_one.Goals as goal

pub returns-in-Zero-clause-ok : goal.returns-in-Zero-clause-ok
returns-in-Zero-clause-ok c = zero_member c.args.basis.now.variables (polys c.args.basis.now.items) c.args.read.now c.in-Zero.is
