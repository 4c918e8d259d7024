use Rattle.std.proofs.Common.{ℕ, get_or}
use Rattle.std.proofs.lemmas.List.{get_or_default}
use Rattle.gf_fan.proofs.WordLaws.{cut_more}
use Rattle.gf_fan.proofs.words.cut_at.Goals as goal

pub loop-p-preserved : goal.loop-p-preserved
loop-p-preserved c =
    let p : ℕ = get_or c.args.indices.now c.loop-p.p-index 0 in
    cut_more c.args.known.now c.args.indices.now c.args.b c.loop-p.p-index p c.index-known-p.result c.as_slice.result.now _ c.loop-p.cut c.loop-p-test.true
    (get_or_default c.args.indices.now c.loop-p.p-index 0 p c.loop-p-test.true) (c.requires.indices c.loop-p.p-index 0 c.loop-p-test.true)
    c.index-known-p.is c.as_slice.ensures c.requires.inside c.loop-p.invariant
