use Rattle.std.proofs.Common.{bit_and}
use Rattle.std.proofs.lemmas.Bool.{eqb-true}
use Rattle.gf_fan.proofs.BitLaws.{bits_below}
use Rattle.gf_fan.proofs.bits.is_word_below.Goals as goal

pub returns : goal.returns
returns c = λ t i. bits_below c.args.x c.args.y i (eqb-true (bit_and c.args.x c.args.y) c.args.x t)
