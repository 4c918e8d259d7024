use Rattle.std.proofs.Common.{refl}
use Rattle.gf_cone.proofs.CrossingLaws.{solution_of_parts}
use Rattle.gf_cone.proofs.checks.shows.Goals as goal

pub returns-then-is_positive_beside : goal.returns-then-is_positive_beside
returns-then-is_positive_beside c = λ t. solution_of_parts c.args.cone.now c.args.index c.args.w.now c.normals.result.now c.normals.ensures.value
    c.requires.index c.requires.width (c.if-is_positive_beside.ensures refl) (c.normals_show.ensures t)
