use Rattle.gf_groebner_walk.proofs.StepLaws.{NoneBefore}
use Rattle.gf_groebner_walk.proofs.steps.facet_towards.Given as goal

abbrev pub invariant-indices : goal.invariant-indices
invariant-indices l = NoneBefore l.weight l.cone l.index
