use Rattle.gf_frac.specs.Fraction.{whole}
use Rattle.gf_whole_division.proofs.ValueLaws.{divided_more, divided_all}
use Rattle.gf_whole_division.proofs.combinations.divided.Goals as goal

pub terms-preserved : goal.terms-preserved
terms-preserved c =
    divided_more
    (whole c.args.by.now) c.args.terms.now c.terms.out.items c.push.new.self.items c.terms.i c.index-terms-i.result c.in_ok-share.share c.terms-test.true
    c.index-terms-i.is c.in_ok-share.ensures c.in_ok-push.ensures.items c.terms.invariant

pub returns : goal.returns
returns c = divided_all (whole c.args.by.now) c.args.terms.now c.terms.out.items c.terms.i c.terms-test.false c.terms.invariant
