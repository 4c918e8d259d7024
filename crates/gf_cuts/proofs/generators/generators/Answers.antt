use Rattle.std.proofs.Common.{◌≡◌, sym, subst}
use Rattle.gf_gordan.specs.Alternative.{AreRows}
use Rattle.gf_duality_theory.specs.Rays.{IsRays}
use Rattle.gf_cuts.specs.Heights.{generators_of, HasItsRays}
use Rattle.gf_cuts.proofs.HeightLaws.{generators_wide}
use Rattle.gf_cuts.proofs.generators.generators.Goals as goal

pub returns-clause-rays : goal.returns-clause-rays
returns-clause-rays c =
    let x = c.args.cone.now in subst (IsRays x.ambient x.inequalities x.equations x.lineality) c.rays.ensures.value c.rays.ensures.rays

pub returns-clause-wide : goal.returns-clause-wide
returns-clause-wide c =
    let x = c.args.cone.now in
    let r : HasItsRays x = subst (IsRays x.ambient x.inequalities x.equations x.lineality) c.rays.ensures.value c.rays.ensures.rays in
    let e : c.in_ok-joined.field-0.items ≡ generators_of x =
    cc (
      c.in_ok-joined.ensures,
      c.in_ok-turned.ensures,
      c.in_ok-lines.ensures,
      c.in_ok-rays.ensures,
      c.deref.ensures.value,
      c.rays.ensures.value,
      c.lineality.ensures.value,
      c.lineality-2.ensures.value,
    ) in
    subst (AreRows x.ambient) (sym e) (generators_wide x r)
