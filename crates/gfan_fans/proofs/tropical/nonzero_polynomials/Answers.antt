use Rattle.std.proofs.Common.{sym, ◌∙◌}
use Rattle.gfan_fans.proofs.TropicalLaws.{generators_read}
use Rattle.gfan_fans.proofs.tropical.nonzero_polynomials.Goals as goal

pub returns-clause-value : goal.returns-clause-value
returns-clause-value c = c.in_ok-list.ensures.value ∙ sym (generators_read c.args.set.items c.in_ok-read.read.items c.in_ok-read.ensures.ok)
