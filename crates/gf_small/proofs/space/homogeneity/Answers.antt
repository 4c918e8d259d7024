use Rattle.std.proofs.Common.{◌≡◌, ◌∙◌, List, [], ℤ, sym, subst}
use Rattle.std.proofs.lemmas.Result.{IfOk-weaker}
use Rattle.gf_gordan.specs.Alternative.{AreRows}
use Rattle.gf_duality_theory.specs.Rays.{IsRays}
use Rattle.gf_facets_theory.specs.Rows.{rows_of_polynomials}
use Rattle.gf_rays.specs.Cones.{RowsAndRays, AreRaysWithinLimits}
use Rattle.gf_small.proofs.HomogeneitySpaceLaws.{basis_of, rows_width}
use Rattle.gf_small.proofs.space.homogeneity.Goals as goal

pub of-requires-clause-equations : goal.of-requires-clause-equations
of-requires-clause-equations c =
    let rows : c.as_slice-2.result.now ≡ rows_of_polynomials c.args.set.now = c.as_slice-2.ensures.value ∙ c.in_ok-rows.ensures.value in
    subst (AreRows c.args.n) (sym rows) (rows_width c.args.n c.args.set.now c.requires c.in_ok-rows.ensures.marked)

pub returns-clause-space : goal.returns-clause-space
returns-clause-space c =
    let none : c.as_slice.result.now ≡ [] = c.as_slice.ensures.value ∙ c.new-none.ensures.items in
    let rows : c.as_slice-2.result.now ≡ rows_of_polynomials c.args.set.now = c.as_slice-2.ensures.value ∙ c.in_ok-rows.ensures.value in
    IfOk-weaker c.of.result _ _ (λ (o : RowsAndRays) k.
    let rays = subst (λ (h : List (List ℤ)). IsRays c.args.n h c.as_slice-2.result.now o.lineality o.rays) none k in
    basis_of c.args.n c.args.set.now c.as_slice-2.result.now o.lineality o.rays c.requires c.in_ok-rows.ensures.marked rows rays) c.of.ensures.rays

pub returns-clause-complete : goal.returns-clause-complete
returns-clause-complete c = λ within.
    let none : c.as_slice.result.now ≡ [] = c.as_slice.ensures.value ∙ c.new-none.ensures.items in
    let rows : c.as_slice-2.result.now ≡ rows_of_polynomials c.args.set.now = c.as_slice-2.ensures.value ∙ c.in_ok-rows.ensures.value in
    let limits : AreRaysWithinLimits c.args.n c.as_slice.result.now c.as_slice-2.result.now =
    subst (λ (h : List (List ℤ)). AreRaysWithinLimits c.args.n h c.as_slice-2.result.now) (sym none) (subst (AreRaysWithinLimits c.args.n []) (sym rows)
    within) in
    c.of.ensures.complete limits
