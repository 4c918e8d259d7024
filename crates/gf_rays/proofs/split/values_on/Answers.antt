use Rattle.std.proofs.Common.{sym, subst, List, arith, rules, FitsSigned}
use Rattle.std.specs.Int.{w128}
use Rattle.std.proofs.lemmas.Int.{to_z-of_z}
use Rattle.std.proofs.lemmas.List.{take_all}
use Rattle.std.proofs.lemmas.Result.{err_from_is_err_and}
use Rattle.gf_rays.specs.declared.ray.Ray.{Ray}
use Rattle.gf_rays.specs.Splitting.{testing, AreValues}
use Rattle.gf_rays.proofs.SplitLoops.{values_more}
use Rattle.gf_rays.proofs.split.values_on.Goals as goal

pub returns-in_err-v-clause-err : goal.returns-in_err-v-clause-err
returns-in_err-v-clause-err c =
    let p = err_from_is_err_and c.from_residual-in_err-v.result c.from_residual-in_err-v.ensures.1 in
    rw (p.1, p.2) (testing c.ray-item.result (c.loop-ray.ray-index, c.loop-ray-test.true, sym c.ray-item.is) c.in_err-v.ensures.err)

pub loop-ray-preserved : goal.loop-ray-preserved
loop-ray-preserved c =
    let fv : FitsSigned w128 c.in_ok-v.v = search rules in
    let en = simp to_z-of_z at c.in_ok-push.ensures.items in
    values_more c.args.h.now c.args.rays.now c.loop-ray.ray-index c.ray-item.result c.in_ok-v.v c.loop-ray.values.items _ c.loop-ray-test.true c.ray-item.is
    c.in_ok-v.ensures.ok.0 c.in_ok-v.ensures.ok.1 en c.loop-ray.invariant

pub returns-clause-ok : goal.returns-clause-ok
returns-clause-ok c = subst (λ (l : List Ray). AreValues c.args.h.now l c.loop-ray.values.items)
    (take_all c.loop-ray.ray-index c.args.rays.now (omega (arith, c.loop-ray-test.false))) c.loop-ray.invariant
