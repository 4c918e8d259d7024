use Rattle.std.specs.Prelude.{IsNone}
use Rattle.std.proofs.Common.{◌^◌, ◌<ℤ◌, ◌∙◌, refl, [], List, ℤ, pos, All, length, arith, ap, sym, subst}
use Rattle.std.proofs.lemmas.Result.{err_from_is_err_and}
use Rattle.gf_gordan.specs.Alternative.{IsSolvable}
use Rattle.gf_weights.proofs.RootLaws.{closed_wide, root_long, root_inside, root_small, region_is, refused_sum}
use Rattle.gf_weights.proofs.region.worked_out.Goals as goal

pub multipliers_of-requires : goal.multipliers_of-requires
multipliers_of-requires c = closed_wide c.args.n c.args.rows.now c.deref.result.now (c.deref.ensures.value ∙ c.in_ok-all.ensures) c.requires

pub sum_of_rays-requires-clause-wide : goal.sum_of_rays-requires-clause-wide
sum_of_rays-requires-clause-wide c = closed_wide c.args.n c.args.rows.now c.deref-2.result.now (c.deref-2.ensures.value ∙ c.in_ok-all.ensures) c.requires

pub returns-in_err-root-clause-err : goal.returns-in_err-root-clause-err
returns-in_err-root-clause-err c =
    let none : IsSolvable c.args.n c.deref.result.now [] =
    subst (λ o. IsNone o → IsSolvable c.args.n c.deref.result.now []) c.in_default.is c.in_ok-refuted.ensures.none refl in
    let some : IsSolvable c.args.n c.deref-2.result.now [] =
    subst (λ (z : List (List ℤ)). IsSolvable c.args.n z []) (c.deref.ensures.value ∙ sym c.deref-2.ensures.value) none in
    let p = err_from_is_err_and c.from_residual-in_err-root.result c.from_residual-in_err-root.ensures.1 in
    rw (p.1, p.2) (refused_sum c.args.n c.args.rows.now c.deref-2.result.now _ (c.deref-2.ensures.value ∙ c.in_ok-all.ensures) some c.in_err-root.ensures.err)

pub overflow_cast-result : goal.overflow_cast-result
overflow_cast-result c =
    let inside = c.in-Some-first_past.ensures.some.inside in
    let same = ap (λ (z : List ℤ). length z) c.as_slice.ensures.value in
    let long = root_long c.args.n c.deref-2.result.now c.in_ok-root.root c.in_ok-root.ensures.value in
    let few = c.ranges.n.fits in
    omega (arith, inside, same, long, few)

pub new-requires-clause-region : goal.new-requires-clause-region
new-requires-clause-region c =
    let none : IsSolvable c.args.n c.deref.result.now [] =
    subst (λ o. IsNone o → IsSolvable c.args.n c.deref.result.now []) c.in_default.is c.in_ok-refuted.ensures.none refl in
    let some : IsSolvable c.args.n c.deref-2.result.now [] =
    subst (λ (z : List (List ℤ)). IsSolvable c.args.n z []) (c.deref.ensures.value ∙ sym c.deref-2.ensures.value) none in
    root_inside c.args.n c.args.rows.now c.deref-2.result.now c.in_ok-root.root (c.deref-2.ensures.value ∙ c.in_ok-all.ensures) c.requires some
    c.in_ok-root.ensures.value

pub new-requires-clause-small : goal.new-requires-clause-small
new-requires-clause-small c =
    let none : IsSolvable c.args.n c.deref.result.now [] =
    subst (λ o. IsNone o → IsSolvable c.args.n c.deref.result.now []) c.in_default.is c.in_ok-refuted.ensures.none refl in
    let some : IsSolvable c.args.n c.deref-2.result.now [] =
    subst (λ (z : List (List ℤ)). IsSolvable c.args.n z []) (c.deref.ensures.value ∙ sym c.deref-2.ensures.value) none in
    let low : All (λ x. x <ℤ pos (2 ^ 63)) c.as_slice.result.now =
    subst (λ o. IsNone o → All (λ x. x <ℤ pos (2 ^ 63)) c.as_slice.result.now) c.in_default-first_past.is c.first_past.ensures.none refl in
    root_small c.args.n (record { rows = c.args.rows.now; root = c.in_ok-root.root })
    (root_inside c.args.n c.args.rows.now c.deref-2.result.now c.in_ok-root.root (c.deref-2.ensures.value ∙ c.in_ok-all.ensures) c.requires some
    c.in_ok-root.ensures.value)
    (subst (All (λ x. x <ℤ pos (2 ^ 63))) c.as_slice.ensures.value low)

pub returns-clause-value : goal.returns-clause-value
returns-clause-value c =
    let none : IsSolvable c.args.n c.deref.result.now [] =
    subst (λ o. IsNone o → IsSolvable c.args.n c.deref.result.now []) c.in_default.is c.in_ok-refuted.ensures.none refl in
    let some : IsSolvable c.args.n c.deref-2.result.now [] =
    subst (λ (z : List (List ℤ)). IsSolvable c.args.n z []) (c.deref.ensures.value ∙ sym c.deref-2.ensures.value) none in
    let low : All (λ x. x <ℤ pos (2 ^ 63)) c.as_slice.result.now =
    subst (λ o. IsNone o → All (λ x. x <ℤ pos (2 ^ 63)) c.as_slice.result.now) c.in_default-first_past.is c.first_past.ensures.none refl in
    region_is c.args.n c.args.rows.now c.deref-2.result.now c.in_ok-root.root c.in_ok-region.region (c.deref-2.ensures.value ∙ c.in_ok-all.ensures) c.requires
    some c.in_ok-root.ensures.value
    (subst (All (λ x. x <ℤ pos (2 ^ 63))) c.as_slice.ensures.value low) c.in_ok-region.ensures
