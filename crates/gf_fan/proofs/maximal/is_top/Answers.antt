use Rattle.std.proofs.Common.{◌≡◌, refl, sym, subst, List, ℕ, length, All, Contains, IsTrue, arith, rules}
use Rattle.std.proofs.lemmas.List.{take_all}
use Rattle.gf_fan.proofs.TopLaws.{none_further}
use Rattle.gf_fan.proofs.maximal.is_top.Goals as goal

pub loop-top-preserved : goal.loop-top-preserved
loop-top-preserved c = none_further c.args.own.now c.args.tops.now c.loop-top.top-index c.top-item.result c.loop-top-test.true c.top-item.is
    (λ d w. let q : IsTrue c.is_below.result = c.is_below.ensures.1 (subst (λ (z : List ℕ). (length z ≡ length c.args.own.now → ⊥) × All (Contains z)
    c.args.own.now) (sym c.as_slice.ensures) (d, w)) in absurd (search rules)) c.loop-top.invariant

pub returns : goal.returns
returns c = (
  λ t x k d w. c.loop-top.invariant x (subst (λ (l : List (List ℕ)). Contains l x)
      (sym (take_all c.loop-top.top-index c.args.tops.now (omega (arith, c.loop-top-test.false)))) k) d w,
  λ f. refl,
)
