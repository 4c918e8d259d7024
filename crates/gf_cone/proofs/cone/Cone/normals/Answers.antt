use Rattle.std.proofs.Common.{sym, ap, subst, take, List, ℤ, All}
use Rattle.gf_cone.specs.Small.{IsSmall}
use Rattle.gf_cone.proofs.cone.Cone.normals.Goals as goal

pub returns-clause-small : goal.returns-clause-small
returns-clause-small c = subst (All IsSmall) (sym (ap (λ (z : List (List ℤ)). take c.self.inside.count z) c.as_slice.ensures.value)) c.self.invariant.small
