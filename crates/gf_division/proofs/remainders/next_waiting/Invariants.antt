use Rattle.std.proofs.Common.{◌≡◌}
use Rattle.gf_division.specs.Dividends.{split_of, joined_terms}
use Rattle.gf_division.proofs.remainders.next_waiting.Given as goal

abbrev pub invariant-waiting : goal.invariant-waiting
invariant-waiting l = joined_terms (split_of l.rest) ≡ joined_terms (split_of l.initial.rest)
