use Rattle.gf_reverse_theory.proofs.AllBasesLaws.{weights_are_listed}
use Rattle.gf_reverse_theory.proofs.weights_are_listed.Goals as goal

pub returns : goal.returns
returns c = weights_are_listed
