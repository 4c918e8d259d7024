use Rattle.gf_poly.proofs.ProductLaws.{HasVariables-at}
use Rattle.gf_saturate.proofs.GradedLaws.{rows_more}
use Rattle.gf_saturate.proofs.grades.with_differences.Goals as goal

pub difference-requires-clause-left : goal.difference-requires-clause-left
difference-requires-clause-left c =
    HasVariables-at c.args.n c.args.terms.now c.terms.i c.index-terms-i.result c.terms-test.true c.index-terms-i.is c.requires.variables

pub terms-preserved : goal.terms-preserved
terms-preserved c = rows_more c.args.n _ _ c.in_ok-row.row c.in_ok-push.ensures.items c.in_ok-row.ensures c.terms.invariant
