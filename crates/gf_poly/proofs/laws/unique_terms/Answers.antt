use Rattle.gf_poly.proofs.CoefficientLaws.{descending_unique}
use Rattle.gf_poly.proofs.laws.unique_terms.Goals as goal

pub returns : goal.returns
returns c = descending_unique
