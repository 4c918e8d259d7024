use Rattle.gfan_theory.proofs.PartsLaws.{parts_are_joined}
use Rattle.gfan_theory.proofs.laws.parts_are_joined.Goals as goal

pub returns : goal.returns
returns c = parts_are_joined
