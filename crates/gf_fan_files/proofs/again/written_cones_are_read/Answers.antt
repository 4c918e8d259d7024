use Rattle.gf_fan_files.proofs.WrittenFansLaws.{written_cones_are_read}
use Rattle.gf_fan_files.proofs.again.written_cones_are_read.Goals as goal

pub returns : goal.returns
returns c = written_cones_are_read
