use Rattle.std.proofs.Common.{◌≡◌, ℕ, ◌<◌, Bool, List, length}
use Rattle.gf_facets_theory.specs.Regions.{Region}
use Rattle.gf_subtree.specs.Rows.{Row, row_left_at_most}
use Rattle.gfan_lists.specs.Ahead.{AreAhead}
use Rattle.gfan_lists.proofs.ahead.take_ready.Given as goal

-- what was taken is taken, and more
abbrev pub invariant-ready : goal.invariant-ready
invariant-ready g l = record {
  some : 0 < length l.taken.items;
  workers : l.waves.frontier.workers ≡ l.fn.waves.frontier.workers;
  ahead : (certified : Bool) (ring : List (List ℕ)) (k : Region) (is_first : Bool) (row : Row) →
      AreAhead certified ring k is_first l.fn.taken.items row l.fn.waves
      → AreAhead certified ring k is_first l.taken.items row l.waves;
}

abbrev pub decreases-ready : goal.decreases-ready
decreases-ready g l = row_left_at_most l.waves
