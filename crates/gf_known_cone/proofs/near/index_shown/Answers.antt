use Rattle.std.proofs.Common.{◌<◌, List, ℤ, length, refl, subst}
use Rattle.gf_cone.proofs.CrossingLaws.{solution_of_parts}
use Rattle.gf_known_cone.proofs.near.index_shown.Goals as goal

pub returns-then-is_positive_beside : goal.returns-then-is_positive_beside
returns-then-is_positive_beside c =
    let l : c.args.zero < length c.args.cone.now.normals =
    subst (λ (z : List (List ℤ)). c.args.zero < length z) c.normals.ensures.value c.if-zero-normals.true in (
      l,
      solution_of_parts c.args.cone.now c.args.zero c.args.near.now c.args.cone.now.normals refl l c.requires.width
          (c.if-is_positive_beside.ensures refl) c.requires.seen,
    )
