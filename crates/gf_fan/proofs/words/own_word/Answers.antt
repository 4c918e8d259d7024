use Rattle.std.proofs.Common.{ℕ, get_or, refl}
use Rattle.std.proofs.lemmas.List.{get_or_default}
use Rattle.gf_fan.proofs.WordLaws.{word_more, word_done}
use Rattle.gf_fan.proofs.words.own_word.Goals as goal

pub loop-i-preserved : goal.loop-i-preserved
loop-i-preserved c =
    let x : ℕ = get_or c.args.numbers.now c.loop-i.i-index 0 in
    word_more c.args.numbers.now c.args.start c.loop-i.i-index x x c.loop-i.own c.with_bit_from-own.result c.loop-i-test.true
    (get_or_default c.args.numbers.now c.loop-i.i-index 0 x c.loop-i-test.true) refl c.with_bit_from-own.ensures.set c.with_bit_from-own.ensures.others
    c.loop-i.invariant

pub returns : goal.returns
returns c = word_done c.args.numbers.now c.args.start c.loop-i.i-index _ c.loop-i-test.false c.loop-i.invariant
