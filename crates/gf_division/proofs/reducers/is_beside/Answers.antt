use Rattle.gf_division.proofs.ReducerLaws.{beside_by_test, not_beside_by_test}
use Rattle.gf_division.proofs.reducers.is_beside.Goals as goal

pub returns-in-Some-clause-yes : goal.returns-in-Some-clause-yes
returns-in-Some-clause-yes c = beside_by_test c.args.spared.now c.args.x.now c.in-Some.y _ _ c.ne.result c.in-Some.is c.requires c.exponents.ensures.value
    c.exponents-in-Some.ensures.value c.ne.ensures

pub returns-in-Some-clause-no : goal.returns-in-Some-clause-no
returns-in-Some-clause-no c = not_beside_by_test c.args.spared.now c.args.x.now c.in-Some.y _ _ c.ne.result c.in-Some.is c.exponents.ensures.value
    c.exponents-in-Some.ensures.value c.ne.ensures
