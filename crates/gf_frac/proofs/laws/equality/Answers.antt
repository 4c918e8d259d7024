use Rattle.gf_frac.proofs.FractionLaws.{Decides-fraction_eq}
use Rattle.gf_frac.proofs.laws.equality.Goals as goal

pub returns : goal.returns
returns c = Decides-fraction_eq
