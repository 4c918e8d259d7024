use Rattle.std.proofs.Common.{sym, ◌∙◌}
use Rattle.gf_poly.proofs.WordLaws.{compare-by_words}
use Rattle.gf_poly.proofs.monomial.Mono.compare_by_lex.Goals as goal

pub returns-then-words_decide : goal.returns-then-words_decide
returns-then-words_decide c = c.cmp.ensures ∙ sym (compare-by_words c.args.self.now c.args.other.now c.word-x.result c.word-y.result c.word-x.ensures
    c.word-y.ensures (c.words_decide.ensures.0 c.if-words_decide.true))
