use Rattle.std.proofs.Common.{◌≡◌, ◌∙◌, ◌++◌, List, ℤ, ap, arith, get_or, subst, take}
use Rattle.std.specs.List.{AllZip}
use Rattle.std.proofs.lemmas.List.{take_all, take_more}
use Rattle.gf_rays.specs.declared.ray.Ray.{Ray}
use Rattle.gf_rays.specs.Projections.{IsProjectedRay}
use Rattle.gf_rays.proofs.CombineLaws.{AllZip-push}
use Rattle.gf_rays.proofs.project.project_all.Goals as goal

pub loop-ray-preserved : goal.loop-ray-preserved
loop-ray-preserved c =
    let rows : List (List ℤ) = c.args.inequalities.now ++ c.args.equations.now in
    let e : c.as_slice.result.now ≡ rows = c.as_slice.ensures.value ∙ c.in_ok-rows.ensures ∙
    ap (λ (l : List (List ℤ)). l ++ c.args.equations.now) c.in_ok-copied.ensures in
    let d : IsProjectedRay rows c.args.lineality.now (get_or c.args.rays.now c.loop-ray.ray-index c.ray-item.result) c.in-Some.next =
    subst (λ (r : Ray). IsProjectedRay rows c.args.lineality.now r c.in-Some.next) c.ray-item.is
    (subst (λ (l : List (List ℤ)). IsProjectedRay l c.args.lineality.now c.ray-item.result c.in-Some.next) e (rw c.in-Some.is at c.in_ok-next.ensures)) in
    rw (
      take_more c.args.rays.now c.loop-ray.ray-index c.ray-item.result c.loop-ray-test.true,
      c.in_ok-push.ensures.items,
    ) (AllZip-push (IsProjectedRay rows c.args.lineality.now) (take c.loop-ray.ray-index c.args.rays.now) c.loop-ray.out.items _ c.in-Some.next
    c.loop-ray.invariant d)

pub returns : goal.returns
returns c = subst (λ (l : List Ray). AllZip (IsProjectedRay (c.args.inequalities.now ++ c.args.equations.now) c.args.lineality.now) l c.loop-ray.out.items)
    (take_all c.loop-ray.ray-index c.args.rays.now (omega (arith, c.loop-ray-test.false))) c.loop-ray.invariant
