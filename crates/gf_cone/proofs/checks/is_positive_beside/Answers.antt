use Rattle.std.proofs.Common.{refl}
use Rattle.gf_cone.proofs.CrossingLaws.{beside_positive}
use Rattle.gf_cone.proofs.checks.is_positive_beside.Goals as goal

pub returns-then-all_positive : goal.returns-then-all_positive
returns-then-all_positive c = λ t. beside_positive c.args.cone.now.variables c.args.cone.now.beside c.rows.result.now c.args.w.now c.rows.ensures.value
    c.requires (c.if-all_positive.ensures refl) (c.rows_are_positive.ensures t)
