use Rattle.std.proofs.Common.{subst, refl, arith, List, ℕ}
use Rattle.std.proofs.lemmas.List.{take_all}
use Rattle.gf_rays.proofs.MemberLaws.{AreBitsAt, bits_more, bits_room, bits_flags, word_there}
use Rattle.gf_rays.proofs.flags.Flags.at.Goals as goal

pub with_set-words-requires : goal.with_set-words-requires
with_set-words-requires c = word_there c.args.count _ c.loop-i.words.items (c.requires c.loop-i.i-index 0 c.loop-i-test.true) c.loop-i.invariant.long

pub loop-i-preserved : goal.loop-i-preserved
loop-i-preserved c = bits_more c.args.count c.loop-i.i-index _ c.args.numbers.now c.loop-i.words.items c.with_set-words.result.items c.loop-i-test.true refl
    c.with_set-words.ensures.long c.with_set-words.ensures.set c.with_set-words.ensures.others c.loop-i.invariant

pub invariant_of-result : goal.invariant_of-result
invariant_of-result c = bits_room c.args.count c.args.numbers.now c.loop-i.words.items c.requires
    (subst (λ (z : List ℕ). AreBitsAt c.args.count z c.loop-i.words.items) (take_all c.loop-i.i-index c.args.numbers.now (omega (arith, c.loop-i-test.false)))
    c.loop-i.invariant)

pub returns : goal.returns
returns c = bits_flags c.args.count c.args.numbers.now c.loop-i.words.items (subst (λ (z : List ℕ). AreBitsAt c.args.count z c.loop-i.words.items)
    (take_all c.loop-i.i-index c.args.numbers.now (omega (arith, c.loop-i-test.false))) c.loop-i.invariant)
