use Rattle.gf_text.proofs.LimitsLaws.{factor_at}
use Rattle.gf_text.proofs.combine.raise_all.Goals as goal

pub raise-requires : goal.raise-requires
raise-requires c = factor_at _ _ _ _ (rw c.factors.invariant.variables c.requires) c.factors-test.true
