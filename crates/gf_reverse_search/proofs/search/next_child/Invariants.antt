use Rattle.std.proofs.Common.{◌≡◌, ℕ, ◌<◌, get_or, [], ◌∷◌}
use Rattle.gf_reverse_search.specs.Left.{IsBelowMark}
use Rattle.gf_reverse_search.proofs.search.next_child.Given as goal

abbrev pub invariant-loop-label : goal.invariant-loop-label
invariant-loop-label g l = (k : ℕ) (b : _) (w : _) → k < l.label-index → get_or l.label-items k b ≡ b → g.T.Tree.up l.tree w b l.node →
    IsBelowMark g.T.Tree.before l.mark (b ∷ []) → ⊥
