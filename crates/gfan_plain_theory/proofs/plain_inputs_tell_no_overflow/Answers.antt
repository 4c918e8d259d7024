use Rattle.gfan_plain_theory.proofs.PlainLaws.{plain_inputs}
use Rattle.gfan_plain_theory.proofs.plain_inputs_tell_no_overflow.Goals as goal

pub returns : goal.returns
returns c = plain_inputs
