use Rattle.std.proofs.Common.{◌∙◌, sym}
use Rattle.gf_division.proofs.TailLaws.{head_at_index}
use Rattle.gf_lifts.proofs.wide.index_in.Goals as goal

pub returns-in-Equal-clause-head : goal.returns-in-Equal-clause-head
returns-in-Equal-clause-head c = head_at_index c.args.x.now c.args.terms.now c.terms.i c.index-terms-i.result c.terms-test.true c.index-terms-i.is
    (sym c.compare.ensures ∙ c.in-Equal.is)
