use Rattle.std.proofs.Common.{◌∙◌, sym, length}
use Rattle.gf_division.proofs.TailLaws.{elsewhere_end, head_at_index}
use Rattle.gf_small.proofs.InitialFormsLaws.{here_not_zero}
use Rattle.gf_small.proofs.initial.index_or_first.Goals as goal

pub returns-in-Equal-clause-there : goal.returns-in-Equal-clause-there
returns-in-Equal-clause-there c = λ _. head_at_index c.args.x.now c.args.terms.now c.terms.i c.index-terms-i.result c.terms-test.true c.index-terms-i.is
    (sym c.compare.ensures ∙ c.in-Equal.is)

pub returns-in-Equal-clause-elsewhere : goal.returns-in-Equal-clause-elsewhere
returns-in-Equal-clause-elsewhere c = λ z. absurd (here_not_zero (length c.args.x.now) c.args.terms.now c.args.x.now c.terms.i c.index-terms-i.result
    c.requires.same_variables c.requires.descending c.terms-test.true c.index-terms-i.is (sym c.compare.ensures ∙ c.in-Equal.is) z)

pub returns-clause-there : goal.returns-clause-there
returns-clause-there c = λ n. absurd (elsewhere_end c.args.x.now c.terms.i c.args.terms.now c.requires.same_variables n c.terms-test.false c.terms.invariant)
