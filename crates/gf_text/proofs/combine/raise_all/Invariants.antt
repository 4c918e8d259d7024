use Rattle.std.proofs.Common.{◌≡◌, length, drop}
use Rattle.gf_text.specs.Combining.{times_factors}
use Rattle.gf_text.proofs.combine.raise_all.Given as goal

abbrev pub invariant-factors : goal.invariant-factors
invariant-factors l = record {
  variables : length l.mono ≡ length l.initial.mono;
  same : times_factors l.mono (drop l.factor-index l.factors) ≡ times_factors l.initial.mono l.factors;
}
