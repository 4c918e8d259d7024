use Rattle.gfan_theory.proofs.TropicalLimits.{tropical_fans_fit}
use Rattle.gfan_theory.proofs.tropical_fans_fit.Goals as goal

pub returns : goal.returns
returns c = tropical_fans_fit c.small_polynomials_stay_within_limits.ensures.polynomials
