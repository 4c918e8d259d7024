use Rattle.std.proofs.Common.{◌++◌, ◌∷◌, [], List, ap, ◌∙◌}
use Rattle.gf_rays.specs.Cones.{RowsAndRays}
use Rattle.gf_tropical.proofs.CutLaws.{whole_rows}
use Rattle.gf_tropical.proofs.levels.whole.Goals as goal

pub returns-clause-rows : goal.returns-clause-rows
returns-clause-rows c =
    let x : RowsAndRays = c.in_ok-space.space in
    whole_rows c.push.new.self.items x
    (c.in_ok-push.ensures.items ∙ ap (λ (z : List RowsAndRays). z ++ x ∷ []) c.in_ok-out.ensures.items) c.in_ok-space.ensures.rows.1
    c.in_ok-space.ensures.rows.2
