use Rattle.std.proofs.Common.{◌≤◌, List, length}
use Rattle.gf_reverse_search.specs.Pieces.{RefusesAt}
use Rattle.gf_waves.specs.Wave.{IsGiven}
use Rattle.gf_waves.proofs.serving.give_first.Given as goal

-- what is given from what is left of the row is given from the whole
abbrev pub invariant-loop-piece : goal.invariant-loop-piece
invariant-loop-piece g l = record {
  given : (answer : _) (news : List _) → IsGiven g.T.Tree.before g.T.Tree.up (RefusesAt g.T.Tree.up g.T.Tree.refuses) l.row.items answer news →
      IsGiven g.T.Tree.before g.T.Tree.up (RefusesAt g.T.Tree.up g.T.Tree.refuses) l.fn.row.items answer news;
  few : length l.row.items ≤ length l.fn.row.items;
}

abbrev pub decreases-loop-piece : goal.decreases-loop-piece
decreases-loop-piece g l = length l.row.items
