use Rattle.std.proofs.Common.{IfErr, refl}
use Rattle.std.proofs.lemmas.Result.{err_from_is_err_and}
use Rattle.gf_flip.specs.Operations.{IsFlipRefusal}
use Rattle.gf_flip.proofs.FlipSteps.{bounded_at}
use Rattle.gf_flip.proofs.RefusalSteps.{flip_within}
use Rattle.gf_flip.proofs.flips.flip_near.Goals as goal

pub early_lifts-requires-clause-bounded : goal.early_lifts-requires-clause-bounded
early_lifts-requires-clause-bounded c = bounded_at c.args.set.now.variables c.args.set.now.items c.items.result.now c.args.normal.now c.args.normal.now
    c.requires c.items.ensures.value c.see_members.ensures refl

pub literal-requires-clause-bounded : goal.literal-requires-clause-bounded
literal-requires-clause-bounded c = bounded_at c.args.set.now.variables c.args.set.now.items c.items.result.now c.args.normal.now c.args.normal.now c.requires
    c.items.ensures.value c.see_members.ensures refl

pub returns-in_err-lifts-clause-complete : goal.returns-in_err-lifts-clause-complete
returns-in_err-lifts-clause-complete c =
    let p = err_from_is_err_and c.from_residual.result c.from_residual.ensures.1 in
    let k : IfErr c.from_residual.result (IsFlipRefusal c.args.set.now.variables c.args.set.now.items c.args.normal.now c.args.pairs) =
    rw (p.1, p.2) c.in_err-lifts.ensures.cause in
    λ w. flip_within c.args.set.now.variables c.args.set.now.items c.args.normal.now c.args.pairs c.from_residual.result w k

pub returns-2-clause-complete : goal.returns-2-clause-complete
returns-2-clause-complete c = λ w. flip_within c.args.set.now.variables c.args.set.now.items c.args.normal.now c.args.pairs c.literal.result w
    c.literal.ensures.cause
