use Rattle.gf_division.proofs.MonicLaws.{mark_one, mark_not_one, monic_already}
use Rattle.gf_division.proofs.monic.is_monic.Goals as goal

pub returns-clause-yes : goal.returns-clause-yes
returns-clause-yes c = λ t. monic_already c.args.b.now c.requires c.head.ensures.marked
    (mark_one c.args.b.now c.coefficient.result c.one.result c.eq.result c.coefficient.ensures.term c.one.ensures c.eq.ensures t)

pub returns-clause-no : goal.returns-clause-no
returns-clause-no c = λ t. mark_not_one c.args.b.now c.coefficient.result c.one.result c.eq.result c.requires c.head.ensures.marked c.coefficient.ensures.term
    c.one.ensures c.eq.ensures t
