use Rattle.gf_tropical.proofs.LimitLaws.{polynomials_with_room_stay_within_limits, trinomials_stay_within_limits}
use Rattle.gf_tropical.proofs.laws.small_polynomials_stay_within_limits.Goals as goal

pub returns-clause-polynomials : goal.returns-clause-polynomials
returns-clause-polynomials c = polynomials_with_room_stay_within_limits

pub returns-clause-trinomials : goal.returns-clause-trinomials
returns-clause-trinomials c = trinomials_stay_within_limits
