use Rattle.std.proofs.Common.{◌≡◌, ◌∙◌, ap, subst, List, ℤ, ◌++◌}
use Rattle.std.proofs.lemmas.Result.{IfErr-weaker}
use Rattle.gf_gordan.proofs.SystemLaws.{Failed-weaker}
use Rattle.gf_rays.specs.Cones.{RowsAndRays, IsComplete}
use Rattle.gf_rays.specs.Further.{IsImplying}
use Rattle.gf_rays.proofs.FurtherLaws.{moved}
use Rattle.gf_rays.proofs.ReachedLaws.{implied_step}
use Rattle.gf_rays.proofs.PickedLaws.{picked_inside, part_finished}
use Rattle.gf_rays.proofs.rays.Rays.part.Goals as goal

pub picked-requires : goal.picked-requires
picked-requires c =
    let a = subst (λ (z : RowsAndRays). IsComplete z c.self.inside.marked.items) c.self.view_is c.self.invariant in
    picked_inside c.args.self.now c.self.inside.marked.items c.as_slice-2.result.now c.args.numbers.now a c.as_slice-2.ensures.value c.requires.numbers

pub assembled-requires-clause-finished : goal.assembled-requires-clause-finished
assembled-requires-clause-finished c =
    let s : RowsAndRays = c.args.self.now in
    let a = subst (λ (z : RowsAndRays). IsComplete z c.self.inside.marked.items) c.self.view_is c.self.invariant in
    let es : c.in_ok-equations.equations.items ≡ s.equations ++ c.args.zero.now =
    c.in_ok-equations.ensures ∙ ap (λ (z : List (List ℤ)). z ++ c.args.zero.now) (c.in_ok-copied.ensures ∙ c.as_slice.ensures.value ∙
    ap (λ (z : RowsAndRays). z.equations) c.self.view_is) in
    part_finished s c.self.inside.marked.items c.as_slice-2.result.now c.in_ok-marked.marked.items _ _ _ _ c.args.zero.now c.args.numbers.now
    (ap (λ (z : RowsAndRays). z.ambient) c.self.view_is) (c.in_ok-again.ensures.ok ∙ ap (λ (z : RowsAndRays). z.inequalities) c.self.view_is) es
    (c.in_ok-again-2.ensures.ok ∙ ap (λ (z : RowsAndRays). z.lineality) c.self.view_is) a c.as_slice-2.ensures.value c.in_ok-marked.ensures.ok c.requires.part

pub returns-clause-err : goal.returns-clause-err
returns-clause-err c =
    let s : RowsAndRays = c.args.self.now in
    let es : c.in_ok-equations.equations.items ≡ s.equations ++ c.args.zero.now =
    c.in_ok-equations.ensures ∙ ap (λ (z : List (List ℤ)). z ++ c.args.zero.now) (c.in_ok-copied.ensures ∙ c.as_slice.ensures.value ∙
    ap (λ (z : RowsAndRays). z.equations) c.self.view_is) in
    IfErr-weaker c.assembled.result _ _ (λ e f. Failed-weaker _ _ (λ k i. implied_step s.ambient s.inequalities (s.equations ++ c.args.zero.now) k
    (moved (λ n hs zs. IsImplying n hs zs k) (ap (λ (z : RowsAndRays). z.ambient) c.self.view_is)
    (c.in_ok-again.ensures.ok ∙ ap (λ (z : RowsAndRays). z.inequalities) c.self.view_is) es i)) e f) c.assembled.ensures.err
