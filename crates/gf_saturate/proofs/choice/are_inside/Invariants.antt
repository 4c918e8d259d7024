use Rattle.std.specs.Prelude.{◌≡◌, ◌<◌, ℕ}
use Rattle.gf_exponents_theory.specs.Exponents.{entry}
use Rattle.gf_saturate.proofs.choice.are_inside.Given as goal

abbrev pub invariant-variables : goal.invariant-variables
invariant-variables l = (k : ℕ) → k < l.i → entry l.right k ≡ 0 → entry l.left k ≡ 0
