use Rattle.std.proofs.Common.{sym, ◌∙◌, ap, subst, refl, arith, length, ℕ, ℤ, List, inl, inr}
use Rattle.std.proofs.lemmas.Bool.{false≢true, cases_eq}
use Rattle.gf_weights.specs.Cuts.{HasRayOff}
use Rattle.gf_weights.proofs.CrossLaws.{crossing_of_rays, not_crossing}
use Rattle.gf_weights.proofs.cut.is_flippable.Goals as goal
use Rattle.gf_weights.proofs.cut.is_flippable.Goals.{else-other-index-via-then-other-index+else-not-has_ray_off, else-other-index-via-else-other-index}

pub returns-then-not-has_ray_off : goal.returns-then-not-has_ray_off
returns-then-not-has_ray_off c =
    let long = ap (λ (z : List (List ℤ)). length z) c.inequalities-other-end.ensures.value in (
      λ t. absurd (false≢true t),
      λ s. absurd (not_crossing c.args.cut.now.cone c.args.cut.now.rays c.args.index c.loop-other.other c.requires.cut c.requires.index
          (omega (arith, c.loop-other-test.true, long)) c.if-other-index.true (c.if-not-has_ray_off.ensures.no (λ t. false≢true t)) s),
    )

pub loop-other-preserved : goal.loop-other-preserved
loop-other-preserved c = elim c.else-other-index.branch [
  | else-other-index-via-then-other-index+else-not-has_ray_off w ↦ λ k l ne. elim (cases_eq k c.loop-other.other) [
    | inl e ↦ subst (λ (z : ℕ). HasRayOff c.args.cut.now.rays c.args.index z) (sym e) (w.has_ray_off.ensures.yes w.if-not-has_ray_off.false)
    | inr d ↦ c.loop-other.invariant k (omega (arith, l, d)) ne
  ]
  | else-other-index-via-else-other-index w ↦ λ k l ne. elim (cases_eq k c.loop-other.other) [
    | inl e ↦ absurd (ne (e ∙ w.if-other-index.false))
    | inr d ↦ c.loop-other.invariant k (omega (arith, l, d)) ne
  ]
]

pub returns : goal.returns
returns c =
    let long = ap (λ (z : List (List ℤ)). length z) c.inequalities-other-end.ensures.value in (
      λ t. crossing_of_rays c.args.cut.now.cone c.args.cut.now.rays c.args.index c.requires.cut c.requires.index
          (λ k l ne. c.loop-other.invariant k (omega (arith, l, c.loop-other-test.false, long)) ne),
      λ s. refl,
    )
