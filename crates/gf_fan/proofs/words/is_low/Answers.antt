use Rattle.std.proofs.Common.{◌<◌, IsTrue, length, rules, arith}
use Rattle.gf_fan.proofs.WordLaws.{low_further}
use Rattle.gf_fan.proofs.words.is_low.Goals as goal

pub loop-b-preserved : goal.loop-b-preserved
loop-b-preserved c =
    let t : IsTrue c.is_low_on.result = search rules in
    let inside : c.loop-b.b < length c.args.row.now = omega arith in
    low_further c.args.row.now c.args.own.now c.loop-b.b _ _ inside c.loop-b-test.true (c.is_low_on.ensures t) c.loop-b.invariant

pub returns : goal.returns
returns c = λ t b d h. c.loop-b.invariant b d (omega (arith, h))
