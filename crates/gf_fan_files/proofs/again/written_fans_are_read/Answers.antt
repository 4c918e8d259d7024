use Rattle.gf_fan_files.proofs.ReadAgainLaws.{written_fans_are_read}
use Rattle.gf_fan_files.proofs.again.written_fans_are_read.Goals as goal

pub returns : goal.returns
returns c = written_fans_are_read
