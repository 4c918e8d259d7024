use Rattle.gfan_theory.proofs.JoinedLaws.{runs_are_joined}
use Rattle.gfan_theory.proofs.runs_are_joined.Goals as goal

pub returns : goal.returns
returns c = runs_are_joined
