use Rattle.std.proofs.Common.{◌≡◌, List, ℤ, length, subst}
use Rattle.std.proofs.lemmas.List.{take_all}
use Rattle.std.proofs.lemmas.List.Elements.{All-more}
use Rattle.std.proofs.lemmas.Result.{err_from_is_err_and}
use Rattle.gf_gordan.specs.Alternative.{AreRows}
use Rattle.gfan_common.proofs.ToolFormLaws.{first_at}
use Rattle.gfan_common.proofs.checks.check_each.Goals as goal

pub returns-in_err-check_entries-clause-err : goal.returns-in_err-check_entries-clause-err
returns-in_err-check_entries-clause-err c =
    let p = err_from_is_err_and c.from_residual.result c.from_residual.ensures.1 in
    rw (p.1, p.2) (first_at c.args.n c.args.vectors.now c.vectors.vector-index c.vector-item.result c.in_err-check_entries.field-0.0 c.vectors-test.true
    c.vector-item.is c.vectors.invariant c.in_err-check_entries.ensures.err)

pub vectors-preserved : goal.vectors-preserved
vectors-preserved c =
    let fits : List ℤ → Type 0 = λ t. length t ≡ c.args.n in
    All-more fits c.args.vectors.now c.vectors.vector-index c.vector-item.result c.vectors-test.true c.vectors.invariant
    (subst fits c.vector-item.is c.in_ok-check_entries.ensures.ok)

pub returns-clause-ok : goal.returns-clause-ok
returns-clause-ok c = subst (AreRows c.args.n) (take_all c.vectors.vector-index c.args.vectors.now c.vectors-test.false) c.vectors.invariant
