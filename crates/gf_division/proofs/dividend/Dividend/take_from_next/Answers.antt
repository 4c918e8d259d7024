use Rattle.gf_division.proofs.SubtractionLaws.{taken_from_first}
use Rattle.gf_division.proofs.dividend.Dividend.take_from_next.Goals as goal

pub returns-in-Some-clause-ok : goal.returns-in-Some-clause-ok
returns-in-Some-clause-ok c = taken_from_first c.args.coef.now _ _ _ _ c.in-Some.t c.push_difference.result c.in-Some.ensures.items c.push_difference.ensures.ok
