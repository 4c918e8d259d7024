use Rattle.std.proofs.Common.{sym, subst}
use Rattle.std.proofs.lemmas.Result.{err_from_is_err_and}
use Rattle.gf_tree.specs.Refusals.{IsCallRefusal}
use Rattle.gf_tree.proofs.tree.BasisTreeTree.parent.Goals as goal

pub returns-in_err-facet-clause-err : goal.returns-in_err-facet-clause-err
returns-in_err-facet-clause-err c =
    let p = err_from_is_err_and c.from_residual.result c.from_residual.ensures.1 in
    rw p.1 (subst (λ e. IsCallRefusal c.args.self.now.region c.args.self.now.pairs c.args.node.now e) (sym p.2)
    (IsCallRefusal.here c.in_err-facet.ensures.cause))

pub returns-in_err-above-clause-err : goal.returns-in_err-above-clause-err
returns-in_err-above-clause-err c =
    let p = err_from_is_err_and c.from_residual-in_err-above.result c.from_residual-in_err-above.ensures.1 in
    rw p.1 (subst (λ e. IsCallRefusal c.args.self.now.region c.args.self.now.pairs c.args.node.now e) (sym p.2)
    (IsCallRefusal.here c.in_err-above.ensures.cause))
