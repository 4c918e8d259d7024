use Rattle.std.proofs.Common.{ap}
use Rattle.std.proofs.lemmas.Result.{err_from_is_err_and}
use Rattle.gfan_lists.specs.GivenBasis.{IsGivenRootRefusal}
use Rattle.gfan_lists.proofs.GivenBasisLaws.{root_starts_at, way_of_set}
use Rattle.gfan_lists.proofs.given_basis.root_of.Goals as goal

pub returns-in_err-reduced-clause-err : goal.returns-in_err-reduced-clause-err
returns-in_err-reduced-clause-err c =
    let p = err_from_is_err_and c.from_residual.result c.from_residual.ensures.1 in
    rw (p.1, p.2) (IsGivenRootRefusal.at_basis c.in_err-reduced.ensures.err)

pub returns-in-Ok-clause-root : goal.returns-in-Ok-clause-root
returns-in-Ok-clause-root c =
    root_starts_at c.args.marked.now c.in_ok-reduced.reduced c.in_ok-reduced.ensures.variables c.in_ok-reduced.ensures.reduced c.in-Ok.root
    c.in-Ok.ensures.value

pub returns-in-Err-clause-err : goal.returns-in-Err-clause-err
returns-in-Err-clause-err c =
    IsGivenRootRefusal.on_the_way c.in_ok-reduced.reduced c.in-Err.error c.in_ok-reduced.ensures.basis c.in_ok-reduced.ensures.reduced
    (way_of_set c.args.marked.now c.in_ok-reduced.reduced c.in_ok-reduced.ensures.variables c.in_ok-reduced.ensures.reduced c.args.pairs c.in-Err.error
    c.in-Err.ensures.way)
    (ap (λ r. r.refusal) c.from.ensures)
