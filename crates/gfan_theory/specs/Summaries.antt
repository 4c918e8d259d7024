-- Ideals with a number of which `_generated` stays within its limits. Law: proofs/SummaryLimits.antt.
use Rattle.std.specs.Prelude.{◌≡◌, ℕ, ◌≤◌}
use Rattle.gf_buchberger.specs.Pairs.{pairs_below}
use Rattle.gf_generated.specs.Generated.{rest_by_three}
use Rattle.gfan_generated.specs.Generated.{summary_command}

-- the rests of the twelve numbers that follow this one are 0: the generators are a - b, b - c and c - d
abbrev pub HasNoRests : ℕ → Type 0
HasNoRests number = (i : ℕ) → 1 ≤ i → i ≤ 12 → rest_by_three number i ≡ 0

-- Of a number without rests nothing that `_generated` may do leaves its limits, with a limit up to 10^12 and the budget of pairs of a list with four members;
-- 0 is such a number.
pub record SummariesStayWithinLimits : Type 0 where
  pub numbers : (number limit pairs : ℕ) → HasNoRests number → limit ≤ 1000000000000 → pairs_below 4 ≤ pairs → (summary_command number limit pairs).IsWithin tt
  pub zero : HasNoRests 0
