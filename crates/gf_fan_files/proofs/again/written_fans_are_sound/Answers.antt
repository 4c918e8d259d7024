use Rattle.gf_fan_files.proofs.WrittenFansLaws.{written_fans_are_sound}
use Rattle.gf_fan_files.proofs.again.written_fans_are_sound.Goals as goal

pub returns : goal.returns
returns c = written_fans_are_sound
