use Rattle.std.proofs.Common.{ℕ, List, Option, Bor, refl, sym, subst}
use Rattle.std.proofs.lemmas.Result.{err_from_is_err_and}
use Rattle.gf_items.specs.Refusals.{of_text}
use Rattle.gfan_lists.specs.Asked.{IsBasisFileRefused}
use Rattle.gfan_lists.proofs.list.found_in.Goals as goal

pub returns-in_err-found-in-Some-clause-err : goal.returns-in_err-found-in-Some-clause-err
returns-in_err-found-in-Some-clause-err c =
    let p = err_from_is_err_and c.from_residual.result c.from_residual.ensures.1 in
    let e = c.in_err-found-in-Some.field-0.0 in
    rw (p.1, p.2) (subst (λ (f : Option (Bor (List ℕ))). IsBasisFileRefused f (of_text e)) (sym c.in-Some.is) (
      e,
      c.in_err-found-in-Some.ensures.err,
      refl,
    ))
