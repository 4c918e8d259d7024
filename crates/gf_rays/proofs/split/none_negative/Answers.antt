use Rattle.std.proofs.Common.{pos, ◌≤ℤ◌, FitsSigned, get_or, All, subst, arith, rules}
use Rattle.std.specs.Int.{w128}
use Rattle.std.proofs.lemmas.List.{take_all}
use Rattle.gf_rays.proofs.KeptLaws.{up_more}
use Rattle.gf_rays.proofs.split.none_negative.Goals as goal

pub loop-v-preserved : goal.loop-v-preserved
loop-v-preserved c =
    let fv : FitsSigned w128 (get_or c.args.values.now c.loop-v.v-index (pos 0)) = search rules in
    let up : pos 0 ≤ℤ get_or c.args.values.now c.loop-v.v-index (pos 0) = search rules in
    up_more c.args.values.now c.loop-v.v-index c.loop-v-test.true up c.loop-v.invariant

pub returns : goal.returns
returns c = λ t. subst (All (λ z. pos 0 ≤ℤ z)) (take_all c.loop-v.v-index c.args.values.now (omega (arith, c.loop-v-test.false))) c.loop-v.invariant
