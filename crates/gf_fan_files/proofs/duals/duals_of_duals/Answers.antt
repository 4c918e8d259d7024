use Rattle.gf_fan_files.proofs.GeneratedLaws.{duals_of_duals}
use Rattle.gf_fan_files.proofs.duals.duals_of_duals.Goals as goal

pub returns : goal.returns
returns c = duals_of_duals c.farkas_lemma.ensures
