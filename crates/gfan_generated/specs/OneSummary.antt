-- `_generated` writes at most one text for a number and a limit.
-- Law: proofs/SummaryLaws.antt.
use Rattle.std.specs.Prelude.{◌≡◌, ℕ, List, []}
use Rattle.gf_frame.specs.Commands.{IsAnswered}
use Rattle.gfan_generated.specs.Generated.{summary_command}

-- two runs of `_generated` that succeed for the same number and the same limit have written the same text. The numbers of their workers and
-- their budgets may differ
abbrev pub SummariesAreOne : Type 0
SummariesAreOne = (number limit pairs others : ℕ) (text same : List ℕ) → IsAnswered (summary_command number limit pairs) [] text →
    IsAnswered (summary_command number limit others) [] same → text ≡ same
