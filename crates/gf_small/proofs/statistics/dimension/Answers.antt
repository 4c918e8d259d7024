use Rattle.std.proofs.Common.{◌≡◌, ◌∙◌, List, [], ℤ, length, sym, ap, subst}
use Rattle.std.proofs.lemmas.Result.{err_from_is_err_and}
use Rattle.gf_duality_theory.specs.Rays.{IsRays}
use Rattle.gf_facets_theory.specs.Rows.{rows_of_polynomials}
use Rattle.gf_rays.specs.Cones.{AreRaysWithinLimits}
use Rattle.gf_small.specs.Statistics.{members_of}
use Rattle.gf_small.proofs.HomogeneitySpaceLaws.{dimension_of}
use Rattle.gf_small.proofs.statistics.dimension.Goals as goal

pub returns-in_err-space-clause-complete : goal.returns-in_err-space-clause-complete
returns-in_err-space-clause-complete c = λ within.
    let p = err_from_is_err_and c.from_residual-in_err-space.result c.from_residual-in_err-space.ensures.1 in
    let none : c.as_slice.result.now ≡ [] = c.as_slice.ensures.value ∙ c.new-none.ensures.items in
    let rows : c.as_slice-2.result.now ≡ rows_of_polynomials (members_of c.args.sets.now) = c.as_slice-2.ensures.value ∙ c.in_ok-rows.ensures.value in
    let limits : AreRaysWithinLimits c.args.n c.as_slice.result.now c.as_slice-2.result.now =
    subst (λ (h : List (List ℤ)). AreRaysWithinLimits c.args.n h c.as_slice-2.result.now) (sym none) (subst (AreRaysWithinLimits c.args.n []) (sym rows)
    within) in
    rw (p.1, p.2) (c.in_err-space.ensures.complete limits)

pub returns-clause-ok : goal.returns-clause-ok
returns-clause-ok c =
    let none : c.as_slice.result.now ≡ [] = c.as_slice.ensures.value ∙ c.new-none.ensures.items in
    let rays : IsRays c.args.n [] c.as_slice-2.result.now c.in_ok-space.space.lineality c.in_ok-space.space.rays =
    subst (λ (h : List (List ℤ)). IsRays c.args.n h c.as_slice-2.result.now c.in_ok-space.space.lineality c.in_ok-space.space.rays)
    none c.in_ok-space.ensures.rays in
    dimension_of c.args.n _ (members_of c.args.sets.now) c.as_slice-2.result.now c.in_ok-space.space.lineality c.in_ok-space.space.rays
    c.in_ok-rows.ensures.variables c.in_ok-rows.ensures.marked (c.as_slice-2.ensures.value ∙ c.in_ok-rows.ensures.value) rays
    (ap length c.lineality.ensures.value)
