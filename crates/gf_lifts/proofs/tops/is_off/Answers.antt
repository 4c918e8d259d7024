use Rattle.std.proofs.Common.{ap, refl, ◌∙◌, length}
use Rattle.gf_strands.proofs.AlongLaws.{width_at}
use Rattle.gf_lifts.proofs.TopLaws.{off_more, off_end}
use Rattle.gf_lifts.proofs.tops.is_off.Goals as goal

pub is_apart-requires-clause-same_length : goal.is_apart-requires-clause-same_length
is_apart-requires-clause-same_length c = ap length c.exponents.ensures.value ∙ width_at (length c.args.normal.now) c.args.terms.now c.args.terms.now
    c.index-terms-i.result c.terms.i c.requires.terms refl c.terms-test.true c.index-terms-i.is

pub terms-preserved : goal.terms-preserved
terms-preserved c = off_more c.args.normal.now c.args.x.now c.exponents.result.now c.exponents-in-terms.result.now c.terms.i c.args.terms.now
    c.index-terms-i.result c.terms-test.true c.index-terms-i.is c.exponents.ensures.value c.exponents-in-terms.ensures.value
    (c.is_apart.ensures.no c.if-is_apart.false) c.terms.invariant

pub returns : goal.returns
returns c = λ _. off_end c.args.normal.now c.args.x.now c.terms.i c.args.terms.now c.terms-test.false c.terms.invariant
