use Rattle.gfan_theory.proofs.SessionLaws.{linear_sessions}
use Rattle.gfan_theory.proofs.linear_sessions_stay_within_limits.Goals as goal

pub returns : goal.returns
returns c = linear_sessions
