use Rattle.std.proofs.Common.{rules, pos, get_or, FitsSigned, arith}
use Rattle.std.specs.Int.{w128}
use Rattle.std.proofs.lemmas.Int.{to_z-of_z, ints}
use Rattle.gf_vec.proofs.WeightLaws.{Weighed-more}
use Rattle.gf_vec.proofs.weight.weight_of.Goals as goal

pub loop-i-preserved : goal.loop-i-preserved
loop-i-preserved c =
    let fw : FitsSigned w128 (get_or c.args.weight.now c.loop-i.i (pos 0)) = search rules in
    Weighed-more _ _ _ _ c.share-sum.result _ c.loop-i-test.true c.requires.entries (simp to_z-of_z at c.share-sum.ensures.value) c.share-sum.ensures.bound
    (omega (arith, ints, c.loop-i.invariant.bound)) c.loop-i.invariant
