use Rattle.std.proofs.Common.{◌≡◌, ◌<◌, ◌∙◌, ℕ, List, ℤ, length, get_or, sym, ap, subst}
use Rattle.std.proofs.lemmas.List.Elements.{All-contains}
use Rattle.std.proofs.lemmas.Result.{err_from_is_err_and}
use Rattle.gf_gordan.specs.Alternative.{AreRows}
use Rattle.gf_vec.specs.Vector.{zeros}
use Rattle.gf_vec.specs.Steps.{sum_steps, IsFirstWide}
use Rattle.gf_fans_theory.specs.FaceLists.{numbered}
use Rattle.gf_rays.specs.Sums.{adding_steps}
use Rattle.gf_rays.proofs.SumLaws.{IfWide-weaker}
use Rattle.gf_initial_monomials.proofs.SumLaws.{sum_none, sum_more, sum_all, sum_wide, ray_long}
use Rattle.gf_initial_monomials.proofs.sums.sum_at.Goals as goal

pub loop-i-init : goal.loop-i-init
loop-i-init c = sum_none c.args.cone.now.ambient c.args.cone.now.rays c.args.numbers.now c.in_ok-so_far.so_far
    (c.in_ok-so_far.ensures ∙ ap zeros c.ambient.ensures)

pub add-requires : goal.add-requires
add-requires c =
    let k : ℕ = get_or c.args.numbers.now c.loop-i.i-index 0 in
    let w : AreRows c.args.cone.now.ambient c.args.cone.now.rays =
    subst (AreRows c.args.cone.now.ambient) c.rays-rays.ensures.value c.rays-rays.ensures.rays.rays_width in
    c.loop-i.invariant.long ∙ sym (ray_long c.args.cone.now.ambient c.args.cone.now.rays k c.index-rays-i.result w
    (c.requires c.loop-i.i-index 0 c.loop-i-test.true) (c.index-rays-i.is ∙ ap (λ (z : List (List ℤ)). get_or z k c.index-rays-i.result)
    c.rays-rays.ensures.value))

pub loop-i-preserved : goal.loop-i-preserved
loop-i-preserved c =
    let k : ℕ = get_or c.args.numbers.now c.loop-i.i-index 0 in
    let rays : List (List ℤ) = c.args.cone.now.rays in
    let w : AreRows c.args.cone.now.ambient rays = subst (AreRows c.args.cone.now.ambient) c.rays-rays.ensures.value c.rays-rays.ensures.rays.rays_width in
    let here : c.index-rays-i.result ≡ get_or rays k c.index-rays-i.result =
    c.index-rays-i.is ∙ ap (λ (z : List (List ℤ)). get_or z k c.index-rays-i.result) c.rays-rays.ensures.value in
    let inside : k < length rays = c.requires c.loop-i.i-index 0 c.loop-i-test.true in
    sum_more c.args.cone.now.ambient rays c.args.numbers.now c.loop-i.i-index c.loop-i.so_far c.index-rays-i.result c.in_ok-so_far-2.so_far c.loop-i-test.true
    inside here
    (ray_long c.args.cone.now.ambient rays k c.index-rays-i.result w inside here) c.in_ok-so_far-2.ensures.ok.0 c.in_ok-so_far-2.ensures.ok.1 c.loop-i.invariant

pub returns-in_err-so_far-2-clause-wide : goal.returns-in_err-so_far-2-clause-wide
returns-in_err-so_far-2-clause-wide c =
    let k : ℕ = get_or c.args.numbers.now c.loop-i.i-index 0 in
    let rays : List (List ℤ) = c.args.cone.now.rays in
    let here : c.index-rays-i.result ≡ get_or rays k c.index-rays-i.result =
    c.index-rays-i.is ∙ ap (λ (z : List (List ℤ)). get_or z k c.index-rays-i.result) c.rays-rays.ensures.value in
    let p = err_from_is_err_and c.from_residual-in_err-so_far-2.result c.from_residual-in_err-so_far-2.ensures.1 in
    rw (p.1, p.2) (IfWide-weaker (λ e. IsFirstWide e (sum_steps c.loop-i.so_far c.index-rays-i.result))
    (λ e. IsFirstWide e (adding_steps (zeros c.args.cone.now.ambient) (numbered rays c.args.numbers.now)))
    (λ e f. sum_wide c.args.cone.now.ambient rays c.args.numbers.now c.loop-i.i-index c.loop-i.so_far c.index-rays-i.result e c.loop-i-test.true
    (c.requires c.loop-i.i-index 0 c.loop-i-test.true) here f c.loop-i.invariant) _ c.in_err-so_far-2.ensures.wide)

pub returns-clause-value : goal.returns-clause-value
returns-clause-value c =
    let w : AreRows c.args.cone.now.ambient c.args.cone.now.rays =
    subst (AreRows c.args.cone.now.ambient) c.rays-rays.ensures.value c.rays-rays.ensures.rays.rays_width in
    sum_all c.args.cone.now.ambient c.args.cone.now.rays c.args.numbers.now c.loop-i.i-index c.loop-i.so_far w
    (λ i k. All-contains (λ j. j < length c.args.cone.now.rays) c.args.numbers.now i c.requires k) c.loop-i-test.false c.loop-i.invariant

pub returns-clause-long : goal.returns-clause-long
returns-clause-long c = c.loop-i.invariant.long
