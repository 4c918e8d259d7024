use Rattle.gf_text.proofs.VectorsAgainLaws.{vectors_again}
use Rattle.gf_text.proofs.printer.vectors_are_read_again.Goals as goal

pub returns : goal.returns
returns c = vectors_again
