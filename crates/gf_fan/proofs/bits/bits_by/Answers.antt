use Rattle.std.proofs.Common.{refl, sym, subst}
use Rattle.gf_gordan.specs.Alternative.{AreRows}
use Rattle.gf_fan.proofs.NumberLaws.{rays_there}
use Rattle.gf_fan.proofs.EachLaws.{common_width, cone_width}
use Rattle.gf_fan.proofs.BitLaws.{cone_bits_more, first_bits}
use Rattle.gf_fan.proofs.bits.bits_by.Goals as goal

pub bits_of_each-requires-clause-width : goal.bits_of_each-requires-clause-width
bits_of_each-requires-clause-width c = (
  c.args.n,
  (
    subst (AreRows c.args.n) (sym c.as_slice.ensures.keys) c.in_ok-items.ensures,
    subst (AreRows c.args.n) (sym c.as_slice-2.ensures) (common_width c.args.n c.args.cones.now c.args.numbering.now c.requires.ambient c.requires.own
        c.requires.rays),
  ),
)

pub bits_of_cone-requires-clause-listed : goal.bits_of_cone-requires-clause-listed
bits_of_cone-requires-clause-listed c = rays_there c.args.cones.now c.args.numbering.now c.c-item.result.rays c.loop-c.c-index c.c-item.result c.requires.rays
    c.loop-c-test.true c.c-item.is refl

pub bits_of_cone-requires-clause-width : goal.bits_of_cone-requires-clause-width
bits_of_cone-requires-clause-width c = cone_width c.args.n c.args.cones.now c.args.numbering.now c.loop-c.c-index c.c-item.result c.requires.ambient
    c.loop-c-test.true c.c-item.is (common_width c.args.n c.args.cones.now c.args.numbering.now c.requires.ambient c.requires.own c.requires.rays)

pub loop-c-preserved : goal.loop-c-preserved
loop-c-preserved c = cone_bits_more c.args.numbering.now c.args.cones.now c.loop-c.c-index c.c-item.result c.in_ok-bits_of_cone.field-0 c.loop-c.out.items _
    c.loop-c-test.true c.c-item.is c.in_ok-push.ensures.items c.in_ok-bits_of_cone.ensures c.loop-c.invariant

pub returns : goal.returns
returns c = first_bits c.args.numbering.now c.args.cones.now c.loop-c.c-index c.loop-c.out.items c.loop-c.invariant
