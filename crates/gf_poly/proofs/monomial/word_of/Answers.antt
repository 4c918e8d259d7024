use Rattle.std.proofs.Common.{◌+◌, arith, take, subst}
use Rattle.std.proofs.lemmas.List.{take_all}
use Rattle.gf_poly.specs.Monomial.{IsWordOf}
use Rattle.gf_poly.proofs.MonomialLaws.{entry-get_or, entry-take_more, entry-take_last}
use Rattle.gf_poly.proofs.WordLaws.{word_kept, word_set}
use Rattle.gf_poly.proofs.monomial.word_of.Goals as goal
use Rattle.gf_poly.proofs.monomial.word_of.Goals.{then-exponents-i-ne0, else-exponents-i-ne0}

pub entries-preserved : goal.entries-preserved
entries-preserved c =
    let x = c.args.exponents.now in
    let i = c.entries.i in
    elim c.if-exponents-i-ne0.branch [
      | then-exponents-i-ne0 w ↦ rw w.word-is (word_set (take i x) (take (i + 1) x) i c.entries.word (omega arith)
          (omega (arith, entry-take_last x i, entry-get_or x i)) (entry-take_more x i) c.entries.invariant)
      | else-exponents-i-ne0 w ↦ rw w.word-is (word_kept x i c.entries.word (omega (arith, entry-get_or x i)) c.entries.invariant)
    ]

pub returns : goal.returns
returns c = subst (λ x. IsWordOf x c.entries.word) (take_all c.entries.i c.args.exponents.now c.entries-test.false) c.entries.invariant
