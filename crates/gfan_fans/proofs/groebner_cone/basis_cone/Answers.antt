use Rattle.std.proofs.Common.{ℕ, refl, subst, ◌∙◌}
use Rattle.std.proofs.lemmas.Result.{err_from_is_err_and, IfOk-weaker, IfErr-weaker}
use Rattle.gf_gordan.specs.Alternative.{AreRows}
use Rattle.gf_reduced.specs.declared.error.CheckError.TheVariants as check_errors
use Rattle.gfan_fans.specs.GroebnerCone.{IsBasisConeCause}
use Rattle.gfan_fans.proofs.GroebnerConeLaws.{told_normals, untold_normals}
use Rattle.gfan_fans.proofs.groebner_cone.basis_cone.Goals as goal

pub returns-then-items-clause-err : goal.returns-then-items-clause-err
returns-then-items-clause-err c = IsBasisConeCause.at_check check_errors.Memory tt refl

pub returns-in-Err-clause-err : goal.returns-in-Err-clause-err
returns-in-Err-clause-err c = IsBasisConeCause.at_check c.in-Err.error (c.in-Err.ensures.alone refl) c.of_check.ensures

pub returns-in_err-cone-clause-err : goal.returns-in_err-cone-clause-err
returns-in_err-cone-clause-err c =
    let p = err_from_is_err_and c.from_residual.result c.from_residual.ensures.1 in
    rw (p.1, p.2) (IsBasisConeCause.at_check check_errors.Memory tt refl)

pub returns-in_err-vectors-clause-err : goal.returns-in_err-vectors-clause-err
returns-in_err-vectors-clause-err c =
    let p = err_from_is_err_and c.from_residual-in_err-vectors.result c.from_residual-in_err-vectors.ensures.1 in
    rw (p.1, p.2) (IsBasisConeCause.at_check check_errors.Memory tt refl)

pub told-requires-clause-inequalities : goal.told-requires-clause-inequalities
told-requires-clause-inequalities c =
    subst (λ (k : ℕ). AreRows k c.rows_told.result.now) (c.in_ok-cone.ensures.variables ∙ c.requires.variables) c.rows_told.ensures.widths

pub returns-clause-ok : goal.returns-clause-ok
returns-clause-ok c =
    IfOk-weaker c.told.result _ _ (λ text k. told_normals c.args.options c.args.marked.now c.in_ok-cone.cone c.args.n c.rows_told.result.now text.items
    c.in-Ok.ensures.basis.basis.marked c.in-Ok.ensures.terms c.in_ok-cone.ensures c.requires.variables
    c.rows_told.ensures.rows k) c.told.ensures.ok

pub returns-clause-err : goal.returns-clause-err
returns-clause-err c =
    IfErr-weaker c.told.result _ _ (λ r k. untold_normals c.args.options c.args.marked.now c.in_ok-cone.cone c.args.n c.rows_told.result.now r
    c.in-Ok.ensures.basis.basis.marked c.in-Ok.ensures.terms c.in_ok-cone.ensures c.requires.variables
    c.rows_told.ensures.rows k) c.told.ensures.err
