use Rattle.std.specs.Prelude.{IfOk}
use Rattle.std.proofs.Common.{◌≡◌, ◌∙◌, ap, subst, ◌++◌, List, ℤ}
use Rattle.gf_rays.specs.Cones.{RowsAndRays, rows_of}
use Rattle.gf_duality_theory.specs.Rays.{IsRays}
use Rattle.gf_initial_monomials.proofs.CutLaws.{cut_of}
use Rattle.gf_initial_monomials.proofs.cones.cut_anew.Goals as goal

pub returns-clause-ok : goal.returns-clause-ok
returns-clause-ok c = cut_of (rows_of c.args.cone.now) c.args.cone.now.ambient c.args.rows.now _ _ c.of.result
    (c.deref.ensures.value ∙ c.in_ok-inequalities.ensures ∙ ap (λ (z : List (List ℤ)). z ++ c.args.rows.now) (c.in_ok-copied.ensures ∙
    c.inequalities.ensures.value)) c.equations.ensures.value
    (subst (λ m. IfOk c.of.result (λ (d : RowsAndRays). (d.ambient ≡ m) × (d.inequalities ≡ c.deref.result.now) × (d.equations ≡ c.equations.result.now)))
    c.ambient.ensures c.of.ensures.rows)
    (subst (λ m. IfOk c.of.result (λ (d : RowsAndRays). IsRays m c.deref.result.now c.equations.result.now d.lineality d.rays))
    c.ambient.ensures c.of.ensures.rays)
