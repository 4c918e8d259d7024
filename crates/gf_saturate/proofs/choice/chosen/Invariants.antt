use Rattle.gf_saturate.specs.Graded.{IsChoice}
use Rattle.gf_saturate.proofs.choice.chosen.Given as goal

abbrev pub invariant-variables : goal.invariant-variables
invariant-variables l = IsChoice l.n l.set l.choice
