use Rattle.gf_text.proofs.RingTextLaws.{one_ring}
use Rattle.gf_text.proofs.printer.rings_have_one_meaning.Goals as goal

pub returns : goal.returns
returns c = one_ring
