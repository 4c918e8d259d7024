use Rattle.gf_text.proofs.SetMachineLaws.{one_set}
use Rattle.gf_text.proofs.printer.sets_have_one_meaning.Goals as goal

pub returns : goal.returns
returns c = λ ring is xs a b place other first second. one_set ring is xs a b place other first second
