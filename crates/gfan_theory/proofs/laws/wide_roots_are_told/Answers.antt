use Rattle.gfan_lists.proofs.WideRootLaws.{wide_roots}
use Rattle.gfan_theory.proofs.laws.wide_roots_are_told.Goals as goal

pub returns : goal.returns
returns c = wide_roots
