use Rattle.std.proofs.Common.{◌≤◌, length, [], ◌∷◌}
use Rattle.std.specs.Vec.{vec_capacity}
use Rattle.std.specs.List.{Contains}
use Rattle.gf_reverse_search.specs.Left.{IsBelowMark}
use Rattle.gf_reverse_search.specs.Tree.{RisesBy}
use Rattle.gf_reverse_search.specs.Pieces.{ArePiecesBelow}
use Rattle.gf_reverse_search.proofs.expand.list_children.Given as goal

-- the children up to the mark are there, and those past it have labels that are left
abbrev pub invariant-loop-labels : goal.invariant-loop-labels
invariant-loop-labels g l = record {
  listed : IsBelowMark g.T.Tree.before l.mark [] → ⊥;
  below : ArePiecesBelow g.T.Tree.before g.T.Tree.up l.tree l.node l.fn.mark l.pieces.items l.mark;
  few : length l.pieces.items ≤ l.most;
  room : vec_capacity l.fn.pieces ≤ vec_capacity l.pieces;
  rises : RisesBy g.T.Tree.before l.labels.items;
  among : (b : _) (w : _) → g.T.Tree.up l.tree w b l.node → IsBelowMark g.T.Tree.before l.mark (b ∷ []) → Contains l.labels.items b;
}

abbrev pub decreases-loop-labels : goal.decreases-loop-labels
decreases-loop-labels g l = length l.labels.items
