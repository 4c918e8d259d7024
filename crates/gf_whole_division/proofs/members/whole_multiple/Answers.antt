use Rattle.gf_whole_division.proofs.ValueLaws.{multiple_more, multiple_all}
use Rattle.gf_whole_division.proofs.members.whole_multiple.Goals as goal

pub terms-preserved : goal.terms-preserved
terms-preserved c =
    multiple_more c.in_ok-by.by c.args.terms.now c.terms.out.items c.insert.new.self.items c.terms.i c.index_of-index.result c.index-terms-i.result
    c.in_ok-multiple.multiple
    c.terms-test.true c.index-terms-i.is c.in_ok-multiple.ensures c.in_ok-insert.ensures.items c.terms.invariant

pub returns : goal.returns
returns c = multiple_all c.in_ok-by.by c.args.terms.now c.terms.out.items c.terms.i c.in_ok-by.ensures c.terms-test.false c.terms.invariant
