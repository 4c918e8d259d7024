use Rattle.std.proofs.Common.{refl, subst, List}
use Rattle.gf_fan.specs.declared.bits.RowBits.{RowBits}
use Rattle.gf_fan.specs.Words.{AreWordsOfCone}
use Rattle.gf_fan.proofs.NumberLaws.{rays_there}
use Rattle.gf_fan.proofs.WordLaws.{cone_words_more, first_words}
use Rattle.gf_fan.proofs.words.words_of_cones.Goals as goal

pub words_of_cone-requires-clause-listed : goal.words_of_cone-requires-clause-listed
words_of_cone-requires-clause-listed c = rays_there c.args.cones.now c.args.numbering.now c.c-item.result.rays c.loop-c.c-index c.c-item.result c.requires.rays
    c.loop-c-test.true c.c-item.is refl

pub loop-c-preserved : goal.loop-c-preserved
loop-c-preserved c = cone_words_more c.args.numbering.now c.args.known.items c.args.cones.now c.loop-c.c-index c.c-item.result c.in_ok-words_of_cone.field-0
    c.loop-c.out.items _ c.loop-c-test.true c.c-item.is c.in_ok-push.ensures.items
    (subst (λ (w : List (List RowBits)). AreWordsOfCone c.args.numbering.now w c.c-item.result c.in_ok-words_of_cone.field-0) c.as_slice.ensures.value
    c.in_ok-words_of_cone.ensures) c.loop-c.invariant

pub returns : goal.returns
returns c = first_words c.args.numbering.now c.args.items.now.keys c.args.known.items c.args.cones.now c.loop-c.c-index c.loop-c.out.items c.requires.known
    c.loop-c.invariant
