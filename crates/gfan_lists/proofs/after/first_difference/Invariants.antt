use Rattle.std.proofs.Common.{◌≡◌, ℕ, ◌<◌, [], slice_index_or}
use Rattle.gfan_lists.proofs.after.first_difference.Given as goal

-- the names before are the same
abbrev pub invariant-names : goal.invariant-names
invariant-names l = (j : ℕ) → j < l.i → slice_index_or l.found j [] ≡ slice_index_or l.ring j []
