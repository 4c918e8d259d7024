use Rattle.std.proofs.Common.{subst, sym}
use Rattle.gf_poly.specs.Monomial.{IsWordOf}
use Rattle.gf_poly.proofs.LexLaws.{placed-same, word-unique}
use Rattle.gf_poly.proofs.monomial.Mono.is_same.Goals as goal

pub returns : goal.returns
returns c =
    let p = placed-same c.args.self.now c.args.other.now c.indices.result.now c.indices-2.result.now c.requires c.indices.ensures c.indices-2.ensures in
    (λ t. p.0 (c.are_same.ensures.0 t), λ q. c.are_same.ensures.1 (p.1 q))

pub returns-then-word : goal.returns-then-word
returns-then-word c = (
  λ t. absurd (cc),
  λ q. absurd (c.if-word.true (word-unique c.args.self.now c.word.result c.word-2.result c.word.ensures
      (subst (λ x. IsWordOf x c.word-2.result) (sym q) c.word-2.ensures))),
)
