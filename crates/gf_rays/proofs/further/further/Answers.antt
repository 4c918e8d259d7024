use Rattle.std.proofs.Common.{List, ℤ, refl, subst, drop}
use Rattle.std.proofs.lemmas.List.{take_all}
use Rattle.std.proofs.lemmas.Result.{err_from_is_err_and}
use Rattle.gf_gordan.proofs.SystemLaws.{Failed-weaker}
use Rattle.gf_rays.specs.Further.{IsFurtherRowStep}
use Rattle.gf_rays.specs.Leveling.{IsRowStep}
use Rattle.gf_rays.specs.States.{IsConeState}
use Rattle.gf_rays.proofs.FurtherLaws.{step_state, state_more, further_begun, further_more, further_all, further_row_step}
use Rattle.gf_rays.proofs.further.further.Goals as goal

pub step-requires : goal.step-requires
step-requires c =
    let w = c.requires.state in (
      w.1,
      step_state _ w.0 c.loop-k.k c.args.rows.now w.1 c.loop-k.cone.lineality.items c.loop-k.cone.rays.items c.index-rows-k.result c.loop-k-test.true
          c.index-rows-k.is w.2.0 refl (c.loop-k.invariant.0 w.0 w.1 w.2.0 w.2.1),
    )

pub loop-k-init : goal.loop-k-init
loop-k-init c = ((λ n es w s. s), further_begun c.args.from c.args.rows.now c.args.start.lineality.items c.args.start.rays.items)

pub loop-k-preserved : goal.loop-k-preserved
loop-k-preserved c = (
  (λ n es w s.
      state_more n c.loop-k.k c.args.rows.now es _ _ c.index-rows-k.result c.loop-k-test.true c.index-rows-k.is w
      (c.in_ok-cone.ensures.ok es (step_state _ n c.loop-k.k c.args.rows.now es c.loop-k.cone.lineality.items c.loop-k.cone.rays.items c.index-rows-k.result
      c.loop-k-test.true c.index-rows-k.is w refl (c.loop-k.invariant.0 n es w s)))),
  further_more c.args.from c.loop-k.k c.args.rows.now c.args.start.lineality.items c.loop-k.cone.lineality.items c.in_ok-cone.cone.lineality.items
      c.args.start.rays.items c.loop-k.cone.rays.items c.in_ok-cone.cone.rays.items c.index-rows-k.result c.requires.index c.loop-k-test.true c.index-rows-k.is
      c.in_ok-cone.ensures.taken c.loop-k.invariant.1,
)

pub returns-in_err-cone-clause-err : goal.returns-in_err-cone-clause-err
returns-in_err-cone-clause-err c =
    let p = err_from_is_err_and c.from_residual.result c.from_residual.ensures.1 in
    rw (p.1, p.2) (Failed-weaker (IsRowStep c.loop-k.k c.index-rows-k.result c.loop-k.cone.lineality.items c.loop-k.cone.rays.items)
    (IsFurtherRowStep c.args.from c.args.start.lineality.items c.args.start.rays.items (drop c.args.from c.args.rows.now))
    (λ s d. further_row_step c.args.from c.loop-k.k c.args.rows.now c.args.start.lineality.items c.loop-k.cone.lineality.items c.args.start.rays.items
    c.loop-k.cone.rays.items c.index-rows-k.result s c.requires.index c.loop-k-test.true c.index-rows-k.is c.loop-k.invariant.1 d)
    _ c.in_err-cone.ensures.err)

pub returns-clause-reached : goal.returns-clause-reached
returns-clause-reached c = further_all c.args.from c.loop-k.k c.args.rows.now c.args.start.lineality.items c.loop-k.cone.lineality.items c.args.start.rays.items
    c.loop-k.cone.rays.items c.requires.index c.loop-k-test.false c.loop-k.invariant.1

pub returns-clause-ok : goal.returns-clause-ok
returns-clause-ok c = λ n es w s. subst (λ (z : List (List ℤ)). IsConeState n z es c.loop-k.cone.lineality.items c.loop-k.cone.rays.items)
    (take_all c.loop-k.k c.args.rows.now c.loop-k-test.false) (c.loop-k.invariant.0 n es w s)
