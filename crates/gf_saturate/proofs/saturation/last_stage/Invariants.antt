use Rattle.gf_saturate.specs.Saturating.{IsOnTheWay, IsStage}
use Rattle.gf_saturate.proofs.saturation.last_stage.Given as goal

abbrev pub invariant-variables : goal.invariant-variables
invariant-variables l = IsOnTheWay l.n l.set l.k l.stage.polys.items × IsStage l.n l.stage
