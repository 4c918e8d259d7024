use Rattle.std.proofs.Common.{◌≡◌, ◌∙◌, ap, subst, List, ℤ, ℕ, length, ◌+◌, ◌++◌, arith, refl}
use Rattle.std.proofs.lemmas.Result.{err_from_is_err_and}
use Rattle.gf_duality_theory.specs.Elimination.{IsEchelonBasis, IsEliminationStep}
use Rattle.gf_duality_theory.specs.Rays.{IsImplied}
use Rattle.gf_rays.specs.Further.{IsImplying}
use Rattle.gf_rays.specs.declared.ray.Ray.{Ray}
use Rattle.gf_rays.specs.MarkedRays.{vectors_of}
use Rattle.gf_rays.specs.FlatRows.{AreFlatRows}
use Rattle.gf_gordan.proofs.SystemLaws.{Failed-weaker}
use Rattle.gf_rays.proofs.ImpliedLaws.{implied_of}
use Rattle.gf_rays.proofs.ReachedLaws.{implying}
use Rattle.gf_rays.proofs.PickedLaws.{completed_by}
use Rattle.gf_rays.proofs.rays.Rays.assembled.Goals as goal

pub returns-in_err-implied-clause-err : goal.returns-in_err-implied-clause-err
returns-in_err-implied-clause-err c =
    let hs = c.args.inequalities in let es = c.args.equations.items in
    let rows = c.as_slice-rows.result.now in
    let all : ℕ = length rows + c.len.result in
    let q : c.len.result ≡ length es = omega (arith, c.len.ensures) in
    let p = err_from_is_err_and c.from_residual.result c.from_residual.ensures.1 in
    rw (p.1, p.2) (Failed-weaker (λ s. (flat : List (List ℤ)) × (AreFlatRows rows c.as_slice-2.result.now flat × IsEliminationStep all c.args.n
    (flat ++ c.as_slice.result.now) c.args.n s)) (IsImplying c.args.n hs es)
    (λ s k. implying c.args.n hs es c.args.lineality k.0 c.args.marked.items s c.requires.finished
    (subst (λ (l : List (List ℤ)). AreFlatRows l c.args.marked.items k.0) c.as_slice-rows.ensures
    (subst (λ (l : List Ray). AreFlatRows rows l k.0) c.as_slice-2.ensures.value k.1.0))
    (subst (λ (l : List (List ℤ)). IsEliminationStep (length l + length es) c.args.n (k.0 ++ es) c.args.n s) c.as_slice-rows.ensures
    (subst (λ z. IsEliminationStep (length rows + z) c.args.n (k.0 ++ es) c.args.n s) q (subst (λ z. IsEliminationStep all c.args.n (k.0 ++ z) c.args.n s)
    c.as_slice.ensures.value k.1.1)))) _ c.in_err-implied.ensures.err)

pub returns-clause-implied : goal.returns-clause-implied
returns-clause-implied c =
    let hs = c.args.inequalities in let es = c.args.equations.items in
    let k = c.in_ok-implied.ensures.ok in
    implied_of c.args.n hs es c.args.lineality k.0 c.in_ok-implied.implied.items c.args.marked.items c.requires.finished c.requires.inequalities
    c.requires.equations
    (subst (λ (l : List (List ℤ)). AreFlatRows l c.args.marked.items k.0) c.as_slice-rows.ensures
    (subst (λ (l : List Ray). AreFlatRows c.as_slice-rows.result.now l k.0) c.as_slice-2.ensures.value k.1.0))
    (subst (λ z. IsEchelonBasis c.args.n (k.0 ++ z) c.in_ok-implied.implied.items) c.as_slice.ensures.value k.1.1)

pub invariant_of-result : goal.invariant_of-result
invariant_of-result c =
    let hs = c.args.inequalities in let es = c.args.equations.items in
    let k = c.in_ok-implied.ensures.ok in
    let i : IsImplied c.args.n hs es c.in_ok-implied.implied.items = implied_of c.args.n hs es c.args.lineality k.0 c.in_ok-implied.implied.items
    c.args.marked.items c.requires.finished c.requires.inequalities c.requires.equations
    (subst (λ (l : List (List ℤ)). AreFlatRows l c.args.marked.items k.0) c.as_slice-rows.ensures
    (subst (λ (l : List Ray). AreFlatRows c.as_slice-rows.result.now l k.0) c.as_slice-2.ensures.value k.1.0))
    (subst (λ z. IsEchelonBasis c.args.n (k.0 ++ z) c.in_ok-implied.implied.items) c.as_slice.ensures.value k.1.1) in
    completed_by c.args.n hs es c.args.lineality c.in_ok-implied.implied.items _ es _ c.in_ok-vectors.field-0.items
    c.args.marked.items c.inequalities.view_is refl c.lineality.view_is (c.in_ok-vectors.ensures.ok ∙ ap vectors_of c.as_slice-3.ensures.value)
    c.requires.inequalities c.requires.equations
    c.requires.finished i
