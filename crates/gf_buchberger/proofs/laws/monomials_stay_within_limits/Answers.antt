use Rattle.gf_buchberger.proofs.MonomialRuns.{monomials_stay_within_limits}
use Rattle.gf_buchberger.proofs.laws.monomials_stay_within_limits.Goals as goal

pub returns : goal.returns
returns c = monomials_stay_within_limits
