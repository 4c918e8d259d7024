use Rattle.std.proofs.Common.{ℕ, ◌≡◌, arith, subst, sym}
use Rattle.std.specs.Int.{IsGcd}
use Rattle.std.proofs.Math.Nat.{one-dvd}
use Rattle.std.proofs.lemmas.Nat.Gcd.{IsGcd-from_zero, IsGcd-from_mod}
use Rattle.gf_int_theory.specs.Gcd.{gcd-same}
use Rattle.gf_gcd.proofs.divisor.gcd.Goals as goal

-- 1 is the greatest common divisor of itself and each number
by_one : (a b : ℕ) → a ≡ 1 → IsGcd a b 1
by_one a b e = subst (λ (n : ℕ). IsGcd n b 1) (sym e) (one-dvd 1, one-dvd b, λ d h k. h)

pub returns-then-a-eq1-clause-meaning : goal.returns-then-a-eq1-clause-meaning
returns-then-a-eq1-clause-meaning c = by_one c.args.a c.args.b c.if-a-eq1.true

pub returns-then-a-eq1-clause-value : goal.returns-then-a-eq1-clause-value
returns-then-a-eq1-clause-value c = gcd-same _ _ _ (by_one c.args.a c.args.b c.if-a-eq1.true)

pub steps-preserved : goal.steps-preserved
steps-preserved c = (
  λ g h. c.steps.invariant.0 g (IsGcd-from_mod _ _ g (subst (λ r. IsGcd c.steps.y r g) c.remainder-rest.ensures h)),
  omega (arith, c.steps.invariant.2),
  omega (arith, c.remainder-rest.ensures, c.steps.invariant.2),
)

pub returns-clause-meaning : goal.returns-clause-meaning
returns-clause-meaning c = c.steps.invariant.0 _ (IsGcd-from_zero _ _ (omega arith))

pub returns-clause-value : goal.returns-clause-value
returns-clause-value c = gcd-same _ _ _ (c.steps.invariant.0 _ (IsGcd-from_zero _ _ (omega arith)))

pub returns-in-Ok-Ok-clause-meaning : goal.returns-in-Ok-Ok-clause-meaning
returns-in-Ok-Ok-clause-meaning c =
    let here : IsGcd c.steps.x c.steps.y c.from.result = rw (c.from.ensures, sym c.in-Ok-Ok.ensures.1, sym c.in-Ok-Ok.ensures'.1)
    c.narrow_gcd.ensures.meaning in
    c.steps.invariant.0 _ here

pub returns-in-Ok-Ok-clause-value : goal.returns-in-Ok-Ok-clause-value
returns-in-Ok-Ok-clause-value c =
    let here : IsGcd c.steps.x c.steps.y c.from.result = rw (c.from.ensures, sym c.in-Ok-Ok.ensures.1, sym c.in-Ok-Ok.ensures'.1)
    c.narrow_gcd.ensures.meaning in
    gcd-same _ _ _ (c.steps.invariant.0 _ here)
