-- Where a walker stands.
use Rattle.std.specs.Prelude.{ℕ, List, length, ◌≡◌}
use Rattle.gf_reverse_search.specs.declared.mark.Mark.{Mark}
use Rattle.gf_reverse_search.specs.Path.{Leads}

-- a walker's tree, its node, its mark, and how many steps the node is below the walker's top
pub record Standing (T N L : Type 0) : Type 0 where
  pub tree : T
  pub here : N
  pub mark : Mark L
  pub depth : ℕ

-- path leads from the top down to here, by as many steps as depth says
pub record StandsBelow {N L : Type 0} (up : N → L → N → Type 0) (top : N) (path : List L) (here : N) (depth : ℕ) : Type 0 where
  pub leads : Leads up top path here
  pub long : length path ≡ depth

-- the walker is at a node of its tree, as deep below some top as it says
pub record IsBelowSomeTop {T N L : Type 0} (is_node : T → N → Type 0) (up : T → N → L → N → Type 0) (p : Standing T N L) : Type 0 where
  pub node : is_node p.tree p.here
  pub top : N
  pub path : List L
  pub at : StandsBelow (up p.tree) top path p.here p.depth
