use Rattle.std.proofs.Common.{◌≡◌, ◌+◌, ◌∙◌, ap, sym, subst, List, ℤ, ◌++◌, length, length-append, arith, IfOk}
use Rattle.gf_gordan.specs.Alternative.{AreRows}
use Rattle.gf_duality_theory.specs.Rays.{IsRays, IsImplied}
use Rattle.gf_rays.specs.Cones.{RowsAndRays, IsComplete}
use Rattle.gf_rays.specs.States.{IsConeState}
use Rattle.std.proofs.lemmas.Result.{IfErr-weaker, err_from_is_err_and}
use Rattle.gf_gordan.proofs.SystemLaws.{Failed-weaker}
use Rattle.gf_rays.specs.Further.{IsFurtherStep}
use Rattle.gf_rays.proofs.FurtherLaws.{start_of, wide_with, moved, taking_step, ending_step}
use Rattle.gf_rays.proofs.rays.Rays.taken_further.Goals as goal

pub further-requires-clause-index : goal.further-requires-clause-index
further-requires-clause-index c =
    let s : RowsAndRays = c.args.self.now in
    let er : c.in_ok-all.all.items ≡ s.inequalities ++ c.args.more.now =
    c.in_ok-all.ensures ∙ ap (λ (z : List (List ℤ)). z ++ c.args.more.now) (c.in_ok-copied.ensures ∙ c.as_slice.ensures ∙
    ap (λ (z : RowsAndRays). z.inequalities) c.self.view_is) in
    let m : c.len.result ≡ length s.inequalities = c.len.ensures ∙ ap (λ (z : RowsAndRays). length z.inequalities) c.self.view_is in
    let l : length c.as_slice-4.result.now ≡ length s.inequalities + length c.args.more.now =
    ap (λ (z : List (List ℤ)). length z) (c.as_slice-4.ensures.value ∙ er) ∙ length-append s.inequalities c.args.more.now in
    omega (arith, m, l)

pub further-requires-clause-state : goal.further-requires-clause-state
further-requires-clause-state c =
    let s : RowsAndRays = c.args.self.now in
    let a = subst (λ (z : RowsAndRays). IsComplete z c.self.inside.marked.items) c.self.view_is c.self.invariant in
    let er : c.as_slice-4.result.now ≡ s.inequalities ++ c.args.more.now = c.as_slice-4.ensures.value ∙ c.in_ok-all.ensures ∙
    ap (λ (z : List (List ℤ)). z ++ c.args.more.now) (c.in_ok-copied.ensures ∙ c.as_slice.ensures ∙ ap (λ (z : RowsAndRays). z.inequalities)
    c.self.view_is) in
    let el = c.in_ok-copied-2.ensures ∙ c.as_slice-2.ensures ∙ ap (λ (z : RowsAndRays). z.lineality) c.self.view_is in
    let ey = c.in_ok-ray_copies.ensures.ok ∙ c.as_slice-3.ensures.value in
    let m : c.len.result ≡ length s.inequalities = c.len.ensures ∙ ap (λ (z : RowsAndRays). length z.inequalities) c.self.view_is in (
      s.ambient,
      s.equations,
      (
        wide_with s c.self.inside.marked.items c.args.more.now c.as_slice-4.result.now a c.requires er,
        start_of s c.self.inside.marked.items _ c.args.more.now c.as_slice-4.result.now _ c.len.result a er el ey m,
      ),
    )

pub made_of-requires-clause-inequalities : goal.made_of-requires-clause-inequalities
made_of-requires-clause-inequalities c =
    let s : RowsAndRays = c.args.self.now in
    let a = subst (λ (z : RowsAndRays). IsComplete z c.self.inside.marked.items) c.self.view_is c.self.invariant in
    let er : c.in_ok-rows.rows ≡ s.inequalities ++ c.args.more.now = c.in_ok-rows.ensures.ok ∙ c.in_ok-all.ensures ∙
    ap (λ (z : List (List ℤ)). z ++ c.args.more.now) (c.in_ok-copied.ensures ∙ c.as_slice.ensures ∙ ap (λ (z : RowsAndRays). z.inequalities)
    c.self.view_is) in
    subst (λ m. AreRows m c.in_ok-rows.rows) (sym (ap (λ (z : RowsAndRays). z.ambient) c.self.view_is))
    (wide_with s c.self.inside.marked.items c.args.more.now c.in_ok-rows.rows a c.requires er)

pub made_of-requires-clause-equations : goal.made_of-requires-clause-equations
made_of-requires-clause-equations c =
    subst (AreRows c.self.inside.ambient) (sym (c.in_ok-equations.ensures ∙ c.as_slice-5.ensures.value)) c.self.invariant.equations_width

pub made_of-requires-clause-state : goal.made_of-requires-clause-state
made_of-requires-clause-state c =
    let s : RowsAndRays = c.args.self.now in
    let a = subst (λ (z : RowsAndRays). IsComplete z c.self.inside.marked.items) c.self.view_is c.self.invariant in
    let er : c.as_slice-4.result.now ≡ s.inequalities ++ c.args.more.now = c.as_slice-4.ensures.value ∙ c.in_ok-all.ensures ∙
    ap (λ (z : List (List ℤ)). z ++ c.args.more.now) (c.in_ok-copied.ensures ∙ c.as_slice.ensures ∙ ap (λ (z : RowsAndRays). z.inequalities)
    c.self.view_is) in
    let el = c.in_ok-copied-2.ensures ∙ c.as_slice-2.ensures ∙ ap (λ (z : RowsAndRays). z.lineality) c.self.view_is in
    let ey = c.in_ok-ray_copies.ensures.ok ∙ c.as_slice-3.ensures.value in
    let m : c.len.result ≡ length s.inequalities = c.len.ensures ∙ ap (λ (z : RowsAndRays). length z.inequalities) c.self.view_is in
    let wide = wide_with s c.self.inside.marked.items c.args.more.now c.as_slice-4.result.now a c.requires er in
    let start = start_of s c.self.inside.marked.items _ c.args.more.now c.as_slice-4.result.now _ c.len.result a er el ey m in
    moved (λ n hs es. IsConeState n hs es c.in_ok-made.made.lineality.items c.in_ok-made.made.rays.items)
    (sym (ap (λ (z : RowsAndRays). z.ambient) c.self.view_is)) (c.as_slice-4.ensures.value ∙ sym c.in_ok-rows.ensures.ok)
    (sym (c.in_ok-equations.ensures ∙ c.as_slice-5.ensures.value ∙ ap (λ (z : RowsAndRays). z.equations) c.self.view_is))
    (c.in_ok-made.ensures.ok s.ambient s.equations wide start)

pub returns-clause-rows : goal.returns-clause-rows
returns-clause-rows c =
    let s : RowsAndRays = c.args.self.now in
    let er : c.in_ok-rows.rows ≡ s.inequalities ++ c.args.more.now = c.in_ok-rows.ensures.ok ∙ c.in_ok-all.ensures ∙
    ap (λ (z : List (List ℤ)). z ++ c.args.more.now) (c.in_ok-copied.ensures ∙ c.as_slice.ensures ∙ ap (λ (z : RowsAndRays). z.inequalities)
    c.self.view_is) in
    let ee : c.in_ok-equations.equations.items ≡ s.equations =
    c.in_ok-equations.ensures ∙ c.as_slice-5.ensures.value ∙ ap (λ (z : RowsAndRays). z.equations) c.self.view_is in
    moved (λ n hs es. IfOk c.made_of.result (λ r. (r.ambient ≡ n) × (r.inequalities ≡ hs) × (r.equations ≡ es))) (ap (λ (z : RowsAndRays). z.ambient)
    c.self.view_is) er ee c.made_of.ensures.rows

pub returns-clause-rays : goal.returns-clause-rays
returns-clause-rays c =
    let s : RowsAndRays = c.args.self.now in
    let er : c.in_ok-rows.rows ≡ s.inequalities ++ c.args.more.now = c.in_ok-rows.ensures.ok ∙ c.in_ok-all.ensures ∙
    ap (λ (z : List (List ℤ)). z ++ c.args.more.now) (c.in_ok-copied.ensures ∙ c.as_slice.ensures ∙ ap (λ (z : RowsAndRays). z.inequalities)
    c.self.view_is) in
    let ee : c.in_ok-equations.equations.items ≡ s.equations =
    c.in_ok-equations.ensures ∙ c.as_slice-5.ensures.value ∙ ap (λ (z : RowsAndRays). z.equations) c.self.view_is in
    moved (λ n hs es. IfOk c.made_of.result (λ r. IsRays n hs es r.lineality r.rays)) (ap (λ (z : RowsAndRays). z.ambient) c.self.view_is)
    er ee c.made_of.ensures.rays

pub returns-clause-implied : goal.returns-clause-implied
returns-clause-implied c =
    let s : RowsAndRays = c.args.self.now in
    let er : c.in_ok-rows.rows ≡ s.inequalities ++ c.args.more.now = c.in_ok-rows.ensures.ok ∙ c.in_ok-all.ensures ∙
    ap (λ (z : List (List ℤ)). z ++ c.args.more.now) (c.in_ok-copied.ensures ∙ c.as_slice.ensures ∙ ap (λ (z : RowsAndRays). z.inequalities)
    c.self.view_is) in
    let ee : c.in_ok-equations.equations.items ≡ s.equations =
    c.in_ok-equations.ensures ∙ c.as_slice-5.ensures.value ∙ ap (λ (z : RowsAndRays). z.equations) c.self.view_is in
    moved (λ n hs es. IfOk c.made_of.result (λ r. IsImplied n hs es r.implied)) (ap (λ (z : RowsAndRays). z.ambient) c.self.view_is)
    er ee c.made_of.ensures.implied

pub returns-in_err-made-clause-err : goal.returns-in_err-made-clause-err
returns-in_err-made-clause-err c =
    let s : RowsAndRays = c.args.self.now in
    let a = subst (λ (z : RowsAndRays). IsComplete z c.self.inside.marked.items) c.self.view_is c.self.invariant in
    let er : c.as_slice-4.result.now ≡ s.inequalities ++ c.args.more.now = c.as_slice-4.ensures.value ∙ c.in_ok-all.ensures ∙
    ap (λ (z : List (List ℤ)). z ++ c.args.more.now) (c.in_ok-copied.ensures ∙ c.as_slice.ensures ∙ ap (λ (z : RowsAndRays). z.inequalities)
    c.self.view_is) in
    let el = c.in_ok-copied-2.ensures ∙ c.as_slice-2.ensures ∙ ap (λ (z : RowsAndRays). z.lineality) c.self.view_is in
    let ey = c.in_ok-ray_copies.ensures.ok ∙ c.as_slice-3.ensures.value in
    let m : c.len.result ≡ length s.inequalities = c.len.ensures ∙ ap (λ (z : RowsAndRays). length z.inequalities) c.self.view_is in
    let p = err_from_is_err_and c.from_residual-in_err-made.result c.from_residual-in_err-made.ensures.1 in
    rw (p.1, p.2) (Failed-weaker _ (IsFurtherStep s c.args.more.now)
    (λ t k. taking_step s c.self.inside.marked.items _ c.args.more.now c.as_slice-4.result.now _ c.len.result t a er el ey m k) _ c.in_err-made.ensures.err)

pub returns-clause-err : goal.returns-clause-err
returns-clause-err c =
    let s : RowsAndRays = c.args.self.now in
    let a = subst (λ (z : RowsAndRays). IsComplete z c.self.inside.marked.items) c.self.view_is c.self.invariant in
    let er : c.as_slice-4.result.now ≡ s.inequalities ++ c.args.more.now = c.as_slice-4.ensures.value ∙ c.in_ok-all.ensures ∙
    ap (λ (z : List (List ℤ)). z ++ c.args.more.now) (c.in_ok-copied.ensures ∙ c.as_slice.ensures ∙ ap (λ (z : RowsAndRays). z.inequalities)
    c.self.view_is) in
    let el = c.in_ok-copied-2.ensures ∙ c.as_slice-2.ensures ∙ ap (λ (z : RowsAndRays). z.lineality) c.self.view_is in
    let ey = c.in_ok-ray_copies.ensures.ok ∙ c.as_slice-3.ensures.value in
    let m : c.len.result ≡ length s.inequalities = c.len.ensures ∙ ap (λ (z : RowsAndRays). length z.inequalities) c.self.view_is in
    let ee : c.in_ok-equations.equations.items ≡ s.equations =
    c.in_ok-equations.ensures ∙ c.as_slice-5.ensures.value ∙ ap (λ (z : RowsAndRays). z.equations) c.self.view_is in
    IfErr-weaker c.made_of.result _ _ (λ e f. Failed-weaker _ _ (λ t k. ending_step s c.self.inside.marked.items _ c.args.more.now c.as_slice-4.result.now _
    c.in_ok-made.made.lineality.items c.in_ok-made.made.rays.items c.len.result _ _ _ t a er el ey m
    (ap (λ (z : RowsAndRays). z.ambient) c.self.view_is) (c.in_ok-rows.ensures.ok ∙ sym c.as_slice-4.ensures.value ∙ er) ee c.in_ok-made.ensures.reached k) e f)
    c.made_of.ensures.err
