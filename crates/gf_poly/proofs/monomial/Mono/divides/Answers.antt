use Rattle.gf_poly.proofs.WordLaws.{within_word}
use Rattle.gf_poly.proofs.monomial.Mono.divides.Goals as goal

pub returns-else-is_within : goal.returns-else-is_within
returns-else-is_within c = (
  λ t. absurd (cc (t, c.if-is_within.false)),
  λ d. c.is_within.ensures.1 (within_word c.args.self.now c.args.other.now c.word.result c.word-2.result c.word.ensures c.word-2.ensures d),
)
