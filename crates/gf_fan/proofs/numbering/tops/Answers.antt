use Rattle.std.proofs.Common.{◌∙◌, sym, subst}
use Rattle.gf_fan.specs.Tops.{IsTop}
use Rattle.gf_fan.proofs.NumberLaws.{rays_there}
use Rattle.gf_fan.proofs.TopLaws.{tops_more}
use Rattle.gf_fan.proofs.numbering.tops.Goals as goal

pub numbers-requires : goal.numbers-requires
numbers-requires c = rays_there c.args.cones.now c.args.numbering.now c.rays.result.now c.loop-c.c-index c.c-item.result c.requires c.loop-c-test.true
    c.c-item.is c.rays.ensures.value

pub loop-c-preserved : goal.loop-c-preserved
loop-c-preserved c = tops_more c.args.cones.now c.args.numbering.now c.loop-c.c-index c.c-item.result c.from_vec.result c.loop-c.out.keys _ c.loop-c-test.true
    c.c-item.is c.in_ok-insert.ensures.keys
    (subst (IsTop c.args.numbering.now c.c-item.result) (sym c.from_vec.ensures) (c.in_ok-numbers.ensures.0, c.in_ok-numbers.ensures.1 ∙ c.rays.ensures.value))
    c.loop-c.invariant
