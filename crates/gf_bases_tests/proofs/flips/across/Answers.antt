use Rattle.std.proofs.Common.{length, arith, ap}
use Rattle.gf_cone.specs.Cones.{ConeRows}
use Rattle.gf_flip.proofs.ReachedLaws.{told_flippable, reached_crossing, reached_next}
use Rattle.gf_bases_tests.proofs.flips.across.Goals as goal

pub flip-requires : goal.flip-requires
flip-requires c = reached_crossing c.args.list.now c.args.set.now c.index-normals-index.result c.requires
    (told_flippable c.args.set.now c.in_ok-cone.cone c.in_ok-known.known c.is_flippable.new.self c.normals-normals.result.now c.args.index
    c.index-normals-index.result c.in-Ok-true.field-0 c.in_ok-cone.ensures c.in_ok-known.ensures c.in-Ok-true.ensures.same c.normals-normals.ensures.value
    (omega (
      arith,
      c.if-index-normals.false,
      ap length c.normals.ensures.value,
      ap length c.normals-normals.ensures.value,
      ap (λ (z : ConeRows). length z.normals) c.in-Ok-true.ensures.same,
    )) c.index-normals-index.is c.in-Ok-true.field-0-test c.in-Ok-true.ensures.told)

pub returns-in-Ok : goal.returns-in-Ok
returns-in-Ok c = reached_next c.args.list.now c.args.set.now c.in-Ok.next c.index-normals-index.result c.requires
    (told_flippable c.args.set.now c.in_ok-cone.cone c.in_ok-known.known c.is_flippable.new.self c.normals-normals.result.now c.args.index
    c.index-normals-index.result c.in-Ok-true.field-0 c.in_ok-cone.ensures c.in_ok-known.ensures c.in-Ok-true.ensures.same c.normals-normals.ensures.value
    (omega (
      arith,
      c.if-index-normals.false,
      ap length c.normals.ensures.value,
      ap length c.normals-normals.ensures.value,
      ap (λ (z : ConeRows). length z.normals) c.in-Ok-true.ensures.same,
    )) c.index-normals-index.is c.in-Ok-true.field-0-test c.in-Ok-true.ensures.told)
    c.in-Ok.ensures.value c.in-Ok.ensures.variables
