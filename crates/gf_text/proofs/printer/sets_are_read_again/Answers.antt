use Rattle.gf_text.proofs.ReadAgainLaws.{sets_again, bases_again}
use Rattle.gf_text.proofs.printer.sets_are_read_again.Goals as goal

pub returns-clause-sets : goal.returns-clause-sets
returns-clause-sets c = sets_again

pub returns-clause-bases : goal.returns-clause-bases
returns-clause-bases c = bases_again
