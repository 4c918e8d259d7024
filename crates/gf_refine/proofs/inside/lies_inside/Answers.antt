use Rattle.std.proofs.Common.{subst}
use Rattle.gf_gordan.specs.Alternative.{AreRows}
use Rattle.gf_duality_theory.specs.Rays.{IsRays}
use Rattle.gf_rays.specs.Cones.{rows_of}
use Rattle.gf_refine.proofs.InsideLaws.{rays_inside, up_as, zero_as}
use Rattle.gf_refine.proofs.inside.lies_inside.Goals as goal

pub are_up-requires : goal.are_up-requires
are_up-requires c = (
  c.args.c.now.ambient,
  (
    subst (λ m. AreRows m c.inequalities.result.now) c.requires c.inequalities.ensures.width,
    c.rays-rays.ensures.rays.rays_width,
    c.lineality-lineality.ensures.rays.lin_width,
  ),
)

pub are_zero-requires : goal.are_zero-requires
are_zero-requires c = (
  c.args.c.now.ambient,
  (
    subst (λ m. AreRows m c.equations.result.now) c.requires c.equations.ensures.width,
    c.rays-rays.ensures.rays.rays_width,
    c.lineality-lineality.ensures.rays.lin_width,
  ),
)

pub returns-then-are_up : goal.returns-then-are_up
returns-then-are_up c = λ t.
    let x = c.args.c.now in let y = c.args.d.now in
    let r : IsRays x.ambient x.inequalities x.equations x.lineality x.rays =
    subst (IsRays x.ambient x.inequalities x.equations x.lineality) c.rays-rays.ensures.value c.rays-rays.ensures.rays in
    rays_inside x.ambient x (rows_of y) r (up_as c.inequalities.ensures.value c.rays-rays.ensures.value c.lineality-lineality.ensures.value
    (c.are_up.ensures c.if-are_up.true)) (zero_as c.equations.ensures.value c.rays-rays.ensures.value c.lineality-lineality.ensures.value
    (c.are_zero.ensures t))
