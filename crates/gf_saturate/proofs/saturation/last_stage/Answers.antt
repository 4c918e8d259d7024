use Rattle.std.proofs.Common.{◌≡◌, List, slice_index_or, refl, sym, subst, ap, ◌∙◌, inl, inr}
use Rattle.gf_exponents_theory.specs.Exponents.{Exponents, entry}
use Rattle.gf_exponents_theory.proofs.ExponentsLaws.{entry-get_or}
use Rattle.gf_poly.specs.Polynomial.{Terms}
use Rattle.gf_buchberger.specs.Tasks.{HaveRingVariables}
use Rattle.gf_saturate.specs.Saturating.{IsVariableStep, IsVariableStepRefusal, IsSaturateRefusal}
use Rattle.gf_saturate.proofs.StageLaws.{way_next}
use Rattle.gf_saturate.proofs.saturation.last_stage.Goals as goal

pub variables-preserved-then-exponents-k-eq0 : goal.variables-preserved-then-exponents-k-eq0
variables-preserved-then-exponents-k-eq0 c =
    let z : entry c.variables.stage.marks c.variables.k ≡ 0 = sym (entry-get_or c.variables.stage.marks c.variables.k) ∙
    ap (λ (x : Exponents). slice_index_or x c.variables.k 0) (sym c.exponents.ensures.value) ∙ c.if-exponents-k-eq0.true in (
      way_next c.args.n c.args.set.now c.variables.k c.variables.stage.polys.items c.variables.stage.polys.items c.variables.invariant.0
          (inr (c.variables.invariant.1.spared c.variables.k c.variables-test.true z, refl)),
      c.variables.invariant.1,
    )

pub step-requires-clause-variables : goal.step-requires-clause-variables
step-requires-clause-variables c = subst (HaveRingVariables c.args.n) (sym c.deref.ensures.value) c.variables.invariant.1.ring

pub returns-in-Err-clause-err : goal.returns-in-Err-clause-err
returns-in-Err-clause-err c =
    IsSaturateRefusal.at_step c.variables.k c.variables.stage.polys.items c.variables-test.true c.variables.invariant.0
    (subst (λ (fs : List Terms). IsVariableStepRefusal c.args.n c.variables.k fs c.args.pairs c.in-Err.refusal) c.deref.ensures.value c.in-Err.ensures.err)

pub variables-preserved : goal.variables-preserved
variables-preserved c = (
  way_next c.args.n c.args.set.now c.variables.k c.variables.stage.polys.items c.in-Ok-step.next.polys.items c.variables.invariant.0
      (inl (subst (λ (fs : List Terms). IsVariableStep c.args.n c.variables.k fs c.in-Ok-step.next.polys.items)
      c.deref.ensures.value c.in-Ok-step.ensures.step)),
  c.in-Ok-step.ensures.stage,
)
