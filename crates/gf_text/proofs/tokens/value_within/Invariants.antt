use Rattle.std.proofs.Common.{◌≡◌, ◌≤◌, drop}
use Rattle.gf_text.specs.Tokens.{value_from, decimal_value}
use Rattle.gf_text.proofs.tokens.value_within.Given as goal

abbrev pub invariant-loop-d : goal.invariant-loop-d
invariant-loop-d l = record {
  fits : l.n ≤ l.most;
  same : value_from l.n (drop l.d-index l.digits) ≡ decimal_value l.digits;
}
