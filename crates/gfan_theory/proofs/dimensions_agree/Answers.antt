use Rattle.gfan_theory.proofs.DimensionLaws.{dimensions_agree}
use Rattle.gfan_theory.proofs.dimensions_agree.Goals as goal

pub returns : goal.returns
returns c = dimensions_agree
