use Rattle.gf_text.proofs.RingTextLaws.{rings_again}
use Rattle.gf_text.proofs.printer.rings_are_read_again.Goals as goal

pub returns : goal.returns
returns c = rings_again
