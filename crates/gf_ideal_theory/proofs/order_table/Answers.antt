use Rattle.gf_ideal_theory.proofs.OrderTableLaws.{order_table as law}
use Rattle.gf_ideal_theory.proofs.order_table.Goals as goal

pub returns : goal.returns
returns c = law
