use Rattle.std.proofs.Common.{◌∙◌, List, ℤ, ℕ, length, ◌+◌, subst, Any}
use Rattle.std.specs.List.{AllZip}
use Rattle.std.proofs.lemmas.Result.{err_from_is_err_and}
use Rattle.gf_duality_theory.specs.Elimination.{IsEchelonBasis, IsEliminationStep}
use Rattle.gf_duality_theory.specs.Straightening.{IsStraightening, IsOrthogonalized, IsOrthogonalizing}
use Rattle.gf_rays.specs.declared.ray.Ray.{Ray}
use Rattle.gf_rays.specs.Further.{IsEndStep, lineality, straight, echelon}
use Rattle.gf_rays.specs.States.{IsStraightRay}
use Rattle.gf_gordan.proofs.SystemLaws.{Failed-weaker}
use Rattle.gf_rays.proofs.StateLaws.{state_rays}
use Rattle.gf_rays.proofs.FinishLaws.{finished, sorted_flags}
use Rattle.gf_rays.proofs.finish.along_lines.Goals as goal

pub returns-in_err-ys-clause-err : goal.returns-in_err-ys-clause-err
returns-in_err-ys-clause-err c =
    let lin : List (List ℤ) = c.args.made.now.lineality.items in
    let p = err_from_is_err_and c.from_residual.result c.from_residual.ensures.1 in
    rw (p.1, p.2) (Failed-weaker (IsOrthogonalizing (length c.args.inequalities.now + length c.args.equations.now) c.as_slice.result.now)
    (IsEndStep c.args.n c.args.inequalities.now c.args.equations.now c.args.made.now.lineality.items c.args.made.now.rays.items)
    (λ s k. lineality (subst (λ (l : List (List ℤ)). IsOrthogonalizing (length c.args.inequalities.now + length c.args.equations.now) l s)
    c.as_slice.ensures.value k)) _ c.in_err-ys.ensures.err)

pub straighten_all-requires-clause-rays : goal.straighten_all-requires-clause-rays
straighten_all-requires-clause-rays c = rw c.as_slice-3.ensures.value (state_rays _ _ _ _ _ c.requires)

pub returns-in_err-brought-clause-err : goal.returns-in_err-brought-clause-err
returns-in_err-brought-clause-err c =
    let lin : List (List ℤ) = c.args.made.now.lineality.items in
    let rays : List Ray = c.args.made.now.rays.items in
    let all : ℕ = length c.args.inequalities.now + length c.args.equations.now in
    let o : IsOrthogonalized lin c.in_ok-ys.ys.items = subst (λ (l : List (List ℤ)). IsOrthogonalized l c.in_ok-ys.ys.items)
    c.as_slice.ensures.value c.in_ok-ys.ensures.ok in
    let p = err_from_is_err_and c.from_residual-in_err-brought.result c.from_residual-in_err-brought.ensures.1 in
    rw (p.1, p.2) (Failed-weaker (λ s. Any (λ (r : Ray). IsStraightening all c.as_slice-2.result.now r.vector s) c.as_slice-3.result.now)
    (IsEndStep c.args.n c.args.inequalities.now c.args.equations.now c.args.made.now.lineality.items c.args.made.now.rays.items)
    (λ s k.
    let u : Any (λ (r : Ray). IsStraightening all c.in_ok-ys.ys.items r.vector s) rays =
    subst (λ (l : List (List ℤ)). Any (λ (r : Ray). IsStraightening all l r.vector s) rays) c.as_slice-2.ensures.value
    (subst (λ (l : List Ray). Any (λ (r : Ray). IsStraightening all c.as_slice-2.result.now r.vector s) l) c.as_slice-3.ensures.value k) in
    straight c.in_ok-ys.ys.items u.1 o (u.0, u.2, u.3) u.4) _ c.in_err-brought.ensures.err)

pub returns-clause-ok : goal.returns-clause-ok
returns-clause-ok c =
    let o : IsOrthogonalized c.args.made.now.lineality.items c.in_ok-ys.ys.items =
    subst (λ (l : List (List ℤ)). IsOrthogonalized l c.in_ok-ys.ys.items) c.as_slice.ensures.value c.in_ok-ys.ensures.ok in
    let z : AllZip (IsStraightRay c.in_ok-ys.ys.items) c.args.made.now.rays.items c.in_ok-brought.brought.items =
    subst (λ (q : List (List ℤ)). AllZip (IsStraightRay q) c.args.made.now.rays.items c.in_ok-brought.brought.items) c.as_slice-2.ensures.value
    (subst (λ (l : List Ray). AllZip (IsStraightRay c.as_slice-2.result.now) l c.in_ok-brought.brought.items)
    c.as_slice-3.ensures.value c.in_ok-brought.ensures.ok) in
    (c.in_ok-ys.ys.items, (o, z))
