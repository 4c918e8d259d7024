use Rattle.gf_frac.proofs.FractionLaws.{sum-crosswise, product-crosswise}
use Rattle.gf_frac.proofs.laws.school_arithmetic.Goals as goal

pub returns : goal.returns
returns c = record { sum = sum-crosswise; product = product-crosswise }
