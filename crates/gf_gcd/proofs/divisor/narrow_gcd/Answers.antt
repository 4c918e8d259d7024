use Rattle.std.proofs.Common.{arith}
use Rattle.std.proofs.lemmas.Nat.Gcd.{IsGcd-from_zero, IsGcd-from_mod}
use Rattle.gf_gcd.proofs.divisor.narrow_gcd.Goals as goal

pub steps-preserved : goal.steps-preserved
steps-preserved c = (
  λ g h. c.steps.invariant.0 g (IsGcd-from_mod _ _ g h),
  omega (arith, c.steps.invariant.2),
  omega (arith, c.steps.invariant.2),
)

pub returns-clause-meaning : goal.returns-clause-meaning
returns-clause-meaning c = c.steps.invariant.0 _ (IsGcd-from_zero _ _ (omega arith))
