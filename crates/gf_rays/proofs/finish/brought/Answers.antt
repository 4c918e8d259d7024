use Rattle.std.proofs.Common.{◌++◌, List, ℤ, subst}
use Rattle.std.specs.List.{AllZip}
use Rattle.gf_rays.specs.declared.ray.Ray.{Ray}
use Rattle.gf_rays.specs.Projections.{IsProjectedRay}
use Rattle.gf_rays.proofs.ProjectionLaws.{projected_brought}
use Rattle.gf_rays.proofs.StateLaws.{state_rays}
use Rattle.gf_rays.proofs.finish.brought.Goals as goal

pub project_all-requires-clause-rays : goal.project_all-requires-clause-rays
project_all-requires-clause-rays c = rw c.as_slice-in-Err.ensures.value (state_rays _ _ _ _ _ c.requires.state)

pub returns-in-Ok-Some-clause-ok : goal.returns-in-Ok-Some-clause-ok
returns-in-Ok-Some-clause-ok c =
    let rows : List (List ℤ) = c.args.inequalities.now ++ c.args.equations.now in
    let out : List Ray = c.in-Ok-Some.out.items in
    let z : AllZip (IsProjectedRay rows c.as_slice.result.now) c.as_slice-in-Err.result.now out = rw c.in-Ok-Some.field-0-is at c.in-Ok-Some.ensures in
    projected_brought c.args.n c.args.inequalities.now c.args.equations.now c.args.made.now.lineality.items c.args.made.now.rays.items out c.requires.state
    (subst (λ (l : List (List ℤ)). AllZip (IsProjectedRay rows l) c.args.made.now.rays.items out) c.as_slice.ensures.value
    (subst (λ (l : List Ray). AllZip (IsProjectedRay rows c.as_slice.result.now) l out) c.as_slice-in-Err.ensures.value z))
