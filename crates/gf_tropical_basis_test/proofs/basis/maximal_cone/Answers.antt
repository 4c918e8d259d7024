use Rattle.std.proofs.Common.{◌∙◌}
use Rattle.gf_fan.proofs.WholeLaws.{maximal_ambient}
use Rattle.gf_tropical_basis_test.proofs.IndexLaws.{rows_at}
use Rattle.gf_tropical_basis_test.proofs.basis.maximal_cone.Goals as goal

pub returns-clause-value : goal.returns-clause-value
returns-clause-value c = rows_at c.args.fan.now c.args.i c.maximal_cone.result.now c.requires c.maximal_cone.ensures

pub returns-clause-ambient : goal.returns-clause-ambient
returns-clause-ambient c = c.maximal_cone.ensures.ambient ∙ maximal_ambient c.args.fan.now c.args.i c.cones.ensures.fan c.requires
