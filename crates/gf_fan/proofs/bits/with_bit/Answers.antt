use Rattle.std.specs.Int.{w128}
use Rattle.std.proofs.lemmas.Nat.Bits.{bit_at_set_same, bit_at_set_other}
use Rattle.gf_fan.proofs.bits.with_bit.Goals as goal

pub returns-clause-set : goal.returns-clause-set
returns-clause-set c = bit_at_set_same w128 c.args.word c.args.i c.requires

pub returns-clause-others : goal.returns-clause-others
returns-clause-others c = λ j n. bit_at_set_other w128 c.args.word c.args.i c.requires j n
