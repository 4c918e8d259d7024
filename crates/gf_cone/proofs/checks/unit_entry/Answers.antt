use Rattle.std.proofs.Common.{sym}
use Rattle.gf_cone.proofs.CrossingLaws.{unit_one, unit_zero}
use Rattle.gf_cone.proofs.checks.unit_entry.Goals as goal

pub returns-then-index-at : goal.returns-then-index-at
returns-then-index-at c = sym (unit_one c.args.n c.args.at c.args.index c.requires c.if-index-at.true)

pub returns-else-index-at : goal.returns-else-index-at
returns-else-index-at c = sym (unit_zero c.args.n c.args.at c.args.index c.if-index-at.false)
