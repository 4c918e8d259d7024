use Rattle.std.proofs.Common.{◌≡◌, ◌≤◌, ◌+◌, ◌*◌, ◌^◌, drop}
use Rattle.gf_exponents_theory.specs.Exponents.{degree}
use Rattle.gf_order.proofs.comparisons.degree.Given as goal

abbrev pub invariant-loop-e : goal.invariant-loop-e
invariant-loop-e l = (l.sum + degree (drop l.e-index l.x) ≡ degree l.fn.x) × (l.sum ≤ l.e-index * 2 ^ 32)
