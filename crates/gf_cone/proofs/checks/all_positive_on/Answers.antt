use Rattle.std.proofs.Common.{refl}
use Rattle.gf_cone.proofs.CrossingLaws.{interior_of_parts}
use Rattle.gf_cone.proofs.checks.all_positive_on.Goals as goal

pub returns-then-is_positive_beside : goal.returns-then-is_positive_beside
returns-then-is_positive_beside c = λ t. interior_of_parts c.args.cone.now c.args.w.now c.normals.result.now c.normals.ensures.value c.requires
    (c.if-is_positive_beside.ensures refl) (c.normals_are_positive.ensures t)
