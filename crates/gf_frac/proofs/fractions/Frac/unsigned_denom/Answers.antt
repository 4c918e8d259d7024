use Rattle.gf_frac.proofs.PartsLaws.{denominator_is}
use Rattle.gf_frac.proofs.fractions.Frac.unsigned_denom.Goals as goal

pub returns : goal.returns
returns c = record { value = denominator_is _ _ _ c.self.invariant c.self.view_is }
