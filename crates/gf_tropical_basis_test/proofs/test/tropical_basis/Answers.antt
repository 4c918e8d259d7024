use Rattle.std.proofs.lemmas.Result.{IfOk-weaker, IfErr-weaker}
use Rattle.gf_tropical_basis_test.proofs.VerdictLaws.{verdict_right}
use Rattle.gf_tropical_basis_test.proofs.LimitLaws.{test_memory}
use Rattle.gf_tropical_basis_test.proofs.test.tropical_basis.Goals as goal

pub returns-clause-verdict : goal.returns-clause-verdict
returns-clause-verdict g c = IfOk-weaker c.tested.result _ _ (λ v f. verdict_right c.args.n c.args.set.now v c.requires.variables c.requires.degree
    c.gordans_alternative.ensures c.fans_are_cone_lists.ensures f) c.tested.ensures.first

pub returns-clause-complete : goal.returns-clause-complete
returns-clause-complete g c = λ w. IfErr-weaker c.tested.result _ _ (λ e h. test_memory c.args.n c.args.set.now c.args.pairs e w h) c.tested.ensures.err
