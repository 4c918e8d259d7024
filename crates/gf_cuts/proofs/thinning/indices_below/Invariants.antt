use Rattle.std.proofs.Common.{ℕ, ◌<◌, All, Contains}
use Rattle.gf_cuts.proofs.thinning.indices_below.Given as goal

abbrev pub invariant-loop-k : goal.invariant-loop-k
invariant-loop-k l = record {
  below : All (λ x. x < l.k) l.out.items;
  every : (j : ℕ) → j < l.k → Contains l.out.items j;
}
