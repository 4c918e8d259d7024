use Rattle.std.proofs.Common.{◌≡◌, rules, sym, subst, true}
use Rattle.gf_duality_theory.specs.Faces.{IsInCone}
use Rattle.gf_rays.specs.Cones.{RowsAndRays, rows_of}
use Rattle.gf_fan.proofs.SettledLaws.{none_more, none_done}
use Rattle.gf_fan.proofs.holding.is_in_one.Goals as goal

pub loop-c-preserved : goal.loop-c-preserved
loop-c-preserved c = none_more (λ (z : RowsAndRays). IsInCone (rows_of z) c.args.v.now) c.args.cones.now c.loop-c.c-index c.c-item.result c.loop-c-test.true
    c.c-item.is
    (λ i. let t : c.in_ok-is_in.field-0 ≡ true = c.in_ok-is_in.ensures.ok.1 (subst (λ (z : RowsAndRays). IsInCone (rows_of z) c.args.v.now)
    (sym c.as_rays.ensures) i) in absurd (search rules)) c.loop-c.invariant

pub returns-clause-ok : goal.returns-clause-ok
returns-clause-ok c = (
  λ t. absurd (search rules),
  λ i. absurd (none_done (λ (z : RowsAndRays). IsInCone (rows_of z) c.args.v.now) c.args.cones.now c.loop-c.c-index c.loop-c-test.false c.loop-c.invariant i.0
      i.1.0 i.1.1),
)
