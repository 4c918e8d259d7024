use Rattle.std.proofs.Common.{ℕ, ◌<◌}
use Rattle.gf_cone.specs.Spans.{IsBalancedAt}
use Rattle.gf_cone.proofs.spans.is_spanned.Given as goal

abbrev pub invariant-entries : goal.invariant-entries
invariant-entries l = (j : ℕ) → j < l.i → IsBalancedAt l.cone l.index l.span j
