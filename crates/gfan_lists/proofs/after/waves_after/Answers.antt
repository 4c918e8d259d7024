use Rattle.std.proofs.Common.{refl, ap}
use Rattle.std.proofs.lemmas.Result.{err_from_is_err_and}
use Rattle.gf_tree.specs.TreeError.TheVariants as tree_errors
use Rattle.gf_tree.specs.Refusals.{IsTreeRefusal}
use Rattle.gfan_lists.proofs.BasesLaws.{after_goes_on}
use Rattle.gfan_lists.proofs.after.waves_after.Goals as goal

pub returns-in_err-waves-clause-err : goal.returns-in_err-waves-clause-err
returns-in_err-waves-clause-err g c =
    let p = err_from_is_err_and c.from_residual.result c.from_residual.ensures.1 in
    rw p.1 (tree_errors.Memory, IsTreeRefusal.memory refl, p.2)

pub returns-clause-ok : goal.returns-clause-ok
returns-clause-ok g c = λ n fs root first node.
    after_goes_on n c.args.region.now fs c.args.pairs c.args.basis root c.in-Ok.walker c.args.workers c.in_ok-waves.waves first node c.in-Ok.ensures.ok
    c.in_ok-waves.ensures

pub returns-in-Err-clause-err : goal.returns-in-Err-clause-err
returns-in-Err-clause-err g c = (c.in-Err.error, c.in-Err.ensures.cause, ap (λ r. r.refusal) c.from.ensures)
