use Rattle.std.proofs.lemmas.Result.{err_from_is_err_and}
use Rattle.gf_tree.proofs.RefusalLaws.{flip_refused, flip_at}
use Rattle.gf_tree.proofs.steps.crossed.Goals as goal

pub returns-in_err-across-clause-cause : goal.returns-in_err-across-clause-cause
returns-in_err-across-clause-cause c =
    let p = err_from_is_err_and c.from_residual.result c.from_residual.ensures.1 in
    rw p.1 (flip_refused c.args.tree.now.region c.args.tree.now.pairs c.args.set.now c.args.normal.now c.in_err-across.field-0.0 p.0 c.requires.node
    c.requires.flippable c.in_err-across.ensures.cause p.2)

pub returns-in_err-across-clause-at : goal.returns-in_err-across-clause-at
returns-in_err-across-clause-at c =
    let p = err_from_is_err_and c.from_residual.result c.from_residual.ensures.1 in
    rw p.1 (flip_at c.args.tree.now.region c.args.tree.now.pairs c.args.set.now c.args.normal.now c.in_err-across.field-0.0 p.0 c.requires.flippable
    c.in_err-across.ensures.cause p.2)
