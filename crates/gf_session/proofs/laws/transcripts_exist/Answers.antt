use Rattle.gf_session.proofs.TranscriptLaws.{existing}
use Rattle.gf_session.proofs.laws.transcripts_exist.Goals as goal

pub returns : goal.returns
returns g c = existing _ _
