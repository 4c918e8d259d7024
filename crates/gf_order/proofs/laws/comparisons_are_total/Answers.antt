use Rattle.gf_order.proofs.TotalLaws.{comparisons as law}
use Rattle.gf_order.proofs.laws.comparisons_are_total.Goals as goal

pub returns : goal.returns
returns c = law
