use Rattle.std.proofs.Common.{[], ◌∷◌, refl, sym, subst}
use Rattle.std.proofs.lemmas.Result.{err_from_is_err_and}
use Rattle.gfan_lists.specs.After.{reading_given}
use Rattle.gfan_lists.proofs.list.asked_in.Goals as goal

pub returns-in_err-ring-clause-err : goal.returns-in_err-ring-clause-err
returns-in_err-ring-clause-err c =
    let p = err_from_is_err_and c.from_residual.result c.from_residual.ensures.1 in
    let e = c.in_err-ring.field-0.0 in
    rw (p.1, p.2) (e, subst (λ z. (reading_given z).IsRefused (c.args.input.now ∷ []) e) (sym c.if-from_basis.true) c.in_err-ring.ensures.err, refl)

pub returns-in_err-ring-2-clause-err : goal.returns-in_err-ring-2-clause-err
returns-in_err-ring-2-clause-err c =
    let p = err_from_is_err_and c.from_residual-in_err-ring-2.result c.from_residual-in_err-ring-2.ensures.1 in
    let e = c.in_err-ring-2.field-0.0 in
    rw (p.1, p.2) (e, subst (λ z. (reading_given z).IsRefused (c.args.input.now ∷ []) e) (sym c.if-from_basis.false) c.in_err-ring-2.ensures.err, refl)
