use Rattle.gf_fan_files.proofs.AgainLaws.{fans_again}
use Rattle.gf_fan_files.proofs.again.fans_are_read_again.Goals as goal

pub returns : goal.returns
returns c = fans_again
