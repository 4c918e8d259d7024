use Rattle.std.proofs.Common.{bit_and}
use Rattle.std.proofs.lemmas.Bool.{eqb-true}
use Rattle.gf_fan.proofs.BitLaws.{none_common}
use Rattle.gf_fan.proofs.words.is_low_on.Goals as goal

pub returns : goal.returns
returns c = λ t j b. none_common c.args.row.high c.args.own j (eqb-true (bit_and c.args.row.high c.args.own) 0 t) b
