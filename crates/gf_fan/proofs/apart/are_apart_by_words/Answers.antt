use Rattle.std.proofs.Common.{◌<◌, length, sym, subst, ◌∙◌, arith}
use Rattle.std.proofs.lemmas.Result.{IfOk-weaker}
use Rattle.gf_fan.specs.Words.{AreWordsOfCone}
use Rattle.gf_fan.proofs.SettledLaws.{apart_of}
use Rattle.gf_fan.proofs.WordLaws.{told_by_words, index_inside}
use Rattle.gf_fan.proofs.apart.are_apart_by_words.Goals as goal

pub are_told_by_words-requires : goal.are_told_by_words-requires
are_told_by_words-requires c =
    let two = c.requires.words in
    let li : c.args.i < length c.args.cones.now = omega (arith, c.if-i-cones.false) in
    let lj : c.args.j < length c.args.cones.now = omega (arith, c.if-j-cones.false) in
    let first = subst (AreWordsOfCone two.rays c.args.known.now c.args.c.now) (sym c.index-cones-i.is) (two.first c.index-cones-i.result li) in
    let second = subst (AreWordsOfCone two.rays c.args.known.now c.args.d.now) (sym c.index-cones-j.is) (two.second c.index-cones-j.result lj) in
    record {
      wide = λ p d h. two.wide p d h ∙ sym first.long;
      long = second.long ∙ sym first.long;
      left = index_inside two.rays c.args.c.now.inequalities c.args.known.now c.index-cones-i.result.rows.items first.rows;
      right = index_inside two.rays c.args.d.now.inequalities c.args.known.now c.index-cones-j.result.rows.items second.rows;
    }

pub returns : goal.returns
returns c =
    let two = c.requires.words in
    let li : c.args.i < length c.args.cones.now = omega (arith, c.if-i-cones.false) in
    let lj : c.args.j < length c.args.cones.now = omega (arith, c.if-j-cones.false) in
    let first = subst (AreWordsOfCone two.rays c.args.known.now c.args.c.now) (sym c.index-cones-i.is) (two.first c.index-cones-i.result li) in
    let second = subst (AreWordsOfCone two.rays c.args.known.now c.args.d.now) (sym c.index-cones-j.is) (two.second c.index-cones-j.result lj) in
    IfOk-weaker c.are_told_by_words.result _ _ (λ yes f t.
    let w = told_by_words two.rays c.args.known.now c.args.c.now c.args.d.now c.index-cones-i.result c.index-cones-j.result first second (f t) in
    apart_of c.args.c.now c.args.d.now w.0 w.1 c.requires.ambient c.requires.lineality c.has_its_rays.ensures.are_rays c.has_its_rays-2.ensures.are_rays w.2)
    c.are_told_by_words.ensures
