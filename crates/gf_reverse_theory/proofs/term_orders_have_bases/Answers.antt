use Rattle.gf_reverse_theory.proofs.TermOrderLaws.{term_orders_have_bases}
use Rattle.gf_reverse_theory.proofs.term_orders_have_bases.Goals as goal

pub returns : goal.returns
returns c = term_orders_have_bases
