use Rattle.std.proofs.Common.{sym, subst}
use Rattle.gf_fan.specs.Bits.{AreBitsOfCone}
use Rattle.gf_fan.proofs.SettledLaws.{apart_of}
use Rattle.gf_fan.proofs.BitLaws.{told_by_bits}
use Rattle.gf_fan.proofs.apart.are_apart_by_bits.Goals as goal

pub returns : goal.returns
returns c = λ t.
    let two = c.requires.bits in
    let first = subst (AreBitsOfCone two.rays c.args.c.now) (sym c.index-bits-i.is) (two.first c.index-bits-i.result c.requires.first) in
    let second = subst (AreBitsOfCone two.rays c.args.d.now) (sym c.index-bits-j.is) (two.second c.index-bits-j.result c.requires.second) in
    let w = told_by_bits two.rays c.args.c.now c.args.d.now c.index-bits-i.result c.index-bits-j.result first second (c.are_told_by_bits.ensures t) in
    apart_of c.args.c.now c.args.d.now w.0 w.1 c.requires.ambient c.requires.lineality c.has_its_rays.ensures.are_rays c.has_its_rays-2.ensures.are_rays w.2
