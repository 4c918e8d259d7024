use Rattle.std.proofs.Common.{sym, subst}
use Rattle.gf_gordan.specs.Alternative.{AreRows}
use Rattle.gf_duality_theory.specs.Rays.{IsRays}
use Rattle.gf_fan.proofs.SettledLaws.{wide_rows, apart_of, settled_as, separating_as}
use Rattle.gf_fan.proofs.apart.are_apart_by_products.Goals as goal

pub separating-requires : goal.separating-requires
separating-requires c =
    (c.args.c.now.ambient, (c.inequalities.ensures.width, subst (λ m. AreRows m c.rays.result.now) (sym c.requires.ambient) c.rays.ensures.rays.rays_width))

pub separating-requires-2 : goal.separating-requires-2
separating-requires-2 c =
    (c.args.d.now.ambient, (c.inequalities-2.ensures.width, subst (λ m. AreRows m c.rays-2.result.now) c.requires.ambient c.rays-2.ensures.rays.rays_width))

pub are_settled-requires : goal.are_settled-requires
are_settled-requires c =
    let right = wide_rows c.args.d.now.ambient c.inequalities-2.result.now c.rays-2.result.now c.in_ok-right.right.items c.inequalities-2.ensures.width
    c.in_ok-right.ensures in (
      c.args.c.now.ambient,
      (
        subst (AreRows c.args.c.now.ambient) (sym c.deref.ensures.value)
            (wide_rows c.args.c.now.ambient c.inequalities.result.now c.rays.result.now c.in_ok-left.left.items c.inequalities.ensures.width
            c.in_ok-left.ensures),
        subst (AreRows c.args.c.now.ambient) (sym c.deref-2.ensures.value) (subst (λ m. AreRows m c.in_ok-right.right.items) (sym c.requires.ambient) right),
        c.rays-4.ensures.rays.rays_width,
      ),
    )

pub are_settled-requires-2 : goal.are_settled-requires-2
are_settled-requires-2 c =
    let left = wide_rows c.args.c.now.ambient c.inequalities.result.now c.rays.result.now c.in_ok-left.left.items c.inequalities.ensures.width
    c.in_ok-left.ensures in (
      c.args.d.now.ambient,
      (
        subst (AreRows c.args.d.now.ambient) (sym c.deref-3.ensures.value)
            (wide_rows c.args.d.now.ambient c.inequalities-2.result.now c.rays-2.result.now c.in_ok-right.right.items c.inequalities-2.ensures.width
            c.in_ok-right.ensures),
        subst (AreRows c.args.d.now.ambient) (sym c.deref-4.ensures.value) (subst (λ m. AreRows m c.in_ok-left.left.items) c.requires.ambient left),
        c.rays-6.ensures.rays.rays_width,
      ),
    )

pub returns : goal.returns
returns c = λ t. apart_of c.args.c.now c.args.d.now c.in_ok-left.left.items c.in_ok-right.right.items c.requires.ambient c.requires.lineality
    (subst (IsRays c.args.c.now.ambient c.args.c.now.inequalities c.args.c.now.equations c.args.c.now.lineality) c.rays-4.ensures.value c.rays-4.ensures.rays)
    (subst (IsRays c.args.d.now.ambient c.args.d.now.inequalities c.args.d.now.equations c.args.d.now.lineality) c.rays.ensures.value c.rays.ensures.rays)
    (record {
      of_left = separating_as c.in_ok-left.left.items c.inequalities.ensures.value c.rays.ensures.value c.in_ok-left.ensures;
      of_right = separating_as c.in_ok-right.right.items c.inequalities-2.ensures.value c.rays-2.ensures.value c.in_ok-right.ensures;
      settled_left = settled_as c.deref.ensures.value c.deref-2.ensures.value c.rays-3.ensures.value c.rays-4.ensures.value
          (c.are_settled.ensures c.if-not-are_settled.false);
      settled_right = settled_as c.deref-3.ensures.value c.deref-4.ensures.value c.rays-5.ensures.value c.rays-6.ensures.value (c.are_settled-2.ensures t);
    })
