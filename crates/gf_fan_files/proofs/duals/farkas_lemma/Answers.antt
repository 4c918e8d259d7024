use Rattle.gf_fan_files.proofs.GeneratedLaws.{farkas_lemma}
use Rattle.gf_fan_files.proofs.duals.farkas_lemma.Goals as goal

pub returns : goal.returns
returns c = farkas_lemma c.gordans_alternative.ensures
