use Rattle.std.proofs.Common.{sym, subst, refl, List, ℤ}
use Rattle.std.proofs.lemmas.Result.{IfOk-weaker, IfErr-weaker, err_from_is_err_and}
use Rattle.gf_gordan.specs.Alternative.{AreRows}
use Rattle.gf_gordan.proofs.SystemLaws.{Failed-weaker}
use Rattle.gf_duality_theory.specs.Rays.{IsRays}
use Rattle.gf_rays.specs.MarkedRays.{vectors_of}
use Rattle.gf_rays.specs.Further.{IsEndStep, implied}
use Rattle.gf_rays.specs.States.{IsConeState, AreFinished}
use Rattle.gf_rays.proofs.FurtherLaws.{moved}
use Rattle.gf_rays.proofs.rays.Rays.made_of.Goals as goal

pub finish-requires-clause-equations : goal.finish-requires-clause-equations
finish-requires-clause-equations c = subst (AreRows c.args.n) (sym c.as_slice-2.ensures.value) c.requires.equations

pub finish-requires-clause-state : goal.finish-requires-clause-state
finish-requires-clause-state c = moved (λ n hs es. IsConeState n hs es c.args.made.now.lineality.items c.args.made.now.rays.items) refl (sym c.as_slice.ensures)
    (sym c.as_slice-2.ensures.value) c.requires.state

pub returns-in_err-lineality-clause-err : goal.returns-in_err-lineality-clause-err
returns-in_err-lineality-clause-err c =
    let lin = c.args.made.now.lineality.items in
    let rays = c.args.made.now.rays.items in
    let p = err_from_is_err_and c.from_residual.result c.from_residual.ensures.1 in
    rw (p.1, p.2) (Failed-weaker (IsEndStep c.args.n c.as_slice.result.now c.as_slice-2.result.now lin rays) (IsEndStep c.args.n c.args.inequalities
    c.args.equations.items lin rays)
    (λ s k. moved (λ n hs es. IsEndStep n hs es lin rays s) refl c.as_slice.ensures c.as_slice-2.ensures.value k) _ c.in_err-lineality.ensures.err)

pub assembled-requires-clause-finished : goal.assembled-requires-clause-finished
assembled-requires-clause-finished c = subst (λ (l : List (List ℤ)). AreFinished c.args.n c.args.inequalities c.args.equations.items l
    c.in_ok-lineality.field-0.rays.items) (sym c.in_ok-lines.ensures.ok)
    (moved (λ n hs es. AreFinished n hs es c.in_ok-lineality.field-0.lineality.items c.in_ok-lineality.field-0.rays.items)
    refl c.as_slice.ensures c.as_slice-2.ensures.value c.in_ok-lineality.ensures.ok)

pub returns-clause-rays : goal.returns-clause-rays
returns-clause-rays c =
    let f = moved (λ n hs es. AreFinished n hs es c.in_ok-lineality.field-0.lineality.items c.in_ok-lineality.field-0.rays.items)
    refl c.as_slice.ensures c.as_slice-2.ensures.value c.in_ok-lineality.ensures.ok in
    let r : IsRays c.args.n c.args.inequalities c.args.equations.items c.in_ok-lines.lines (vectors_of c.in_ok-lineality.field-0.rays.items) =
    subst (λ (l : List (List ℤ)). IsRays c.args.n c.args.inequalities c.args.equations.items l (vectors_of c.in_ok-lineality.field-0.rays.items))
    (sym c.in_ok-lines.ensures.ok) f.rays in
    IfOk-weaker c.assembled.result _ _ (λ m e. subst (λ (l : List (List ℤ)). IsRays c.args.n c.args.inequalities c.args.equations.items l m.rays) (sym e.0)
    (subst (IsRays c.args.n c.args.inequalities c.args.equations.items c.in_ok-lines.lines) (sym e.1) r)) c.assembled.ensures.rays

pub returns-clause-err : goal.returns-clause-err
returns-clause-err c = IfErr-weaker c.assembled.result _ _ (λ e f. Failed-weaker _ _ (λ s k. implied k) e f) c.assembled.ensures.err
