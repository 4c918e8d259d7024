use Rattle.std.proofs.Common.{◌∙◌, sym}
use Rattle.gf_division.proofs.TailLaws.{elsewhere_end, head_at_index}
use Rattle.gf_division.proofs.autoreduction.index_of.Goals as goal

pub returns-in-Equal-clause-head : goal.returns-in-Equal-clause-head
returns-in-Equal-clause-head c = head_at_index c.args.x.now c.args.terms.now c.terms.i c.index-terms-i.result c.terms-test.true c.index-terms-i.is
    (sym c.compare.ensures ∙ c.in-Equal.is)

pub unreachable-requires : goal.unreachable-requires
unreachable-requires c = elsewhere_end c.args.x.now c.terms.i c.args.terms.now c.requires.variables c.requires.there c.terms-test.false c.terms.invariant
