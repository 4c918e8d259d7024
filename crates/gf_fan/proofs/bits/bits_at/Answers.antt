use Rattle.std.proofs.Common.{sym}
use Rattle.gf_fan.proofs.NumberLaws.{number_of}
use Rattle.gf_fan.proofs.BitLaws.{bits_read}
use Rattle.gf_fan.proofs.bits.bits_at.Goals as goal

pub returns-in-Some : goal.returns-in-Some
returns-in-Some c = bits_read c.args.rays.now c.args.items.now.keys c.args.table.now c.args.h.now c.in-Some.k _ c.requires.table
    (number_of c.args.items.now.keys c.args.h.now c.in-Some.k (sym c.in-Some.ensures.index))
