use Rattle.std.proofs.Common.{◌∙◌, ◌++◌, ◌∷◌, [], List, ap, ap₂, append_assoc, sym}
use Rattle.gf_rays.specs.Cones.{RowsAndRays}
use Rattle.gf_fan.proofs.shared_cone.all_shared.Goals as goal

pub loop-cone-preserved : goal.loop-cone-preserved
loop-cone-preserved c =
    let v = c.loop-cone.yielded in
    let x = c.in-Some.cone in (
      c.in_ok-push.ensures.items ∙ ap₂ (λ (z : List RowsAndRays) (s : RowsAndRays). z ++ s ∷ []) c.loop-cone.invariant.0 c.in_ok-of.ensures,
      append_assoc v (x ∷ []) c.next.new.self.rest.items ∙ ap (λ z. v ++ z) (sym c.in-Some.ensures.steps.0) ∙ c.loop-cone.invariant.1,
    )
