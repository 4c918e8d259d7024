use Rattle.std.proofs.Common.{List}
use Rattle.gf_poly.specs.Polynomial.{Terms}
use Rattle.gf_subtree.specs.Rows.{row_left_at_most}
use Rattle.gf_lists_theory.specs.Starts.{StartsAt}
use Rattle.gfan_generated.proofs.SummaryLaws.{IsSummingUp}
use Rattle.gfan_generated.proofs.summed_up.Given as goal

-- some bases are summed up, and the others are left
abbrev pub invariant-list : goal.invariant-list
invariant-list g l = (fs : List Terms) → StartsAt 4 fs l.fn.root → IsSummingUp l.limit l.pairs fs l.waves l.summary

abbrev pub decreases-list : goal.decreases-list
decreases-list g l = row_left_at_most l.waves
