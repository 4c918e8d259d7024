-- The whole list of a tree, and what comes after a node of it.
-- Laws: proofs/FinitenessLaws.antt, proofs/SuffixLaws.antt.
use Rattle.std.specs.Prelude.{◌≡◌, ℕ, List, [], ◌∷◌, ◌++◌, length, ◌≤◌}
use Rattle.gf_reverse_search.specs.Path.{Leads, IsRoot}
use Rattle.gf_reverse_search.specs.declared.mark.Mark.TheVariants.{Before}
use Rattle.gf_reverse_search.specs.Standing.{Standing, StandsBelow}
use Rattle.gf_reverse_search.specs.Listing.{Among, Rises, LeadTo, Leaves, IsLeftAt}

-- no element of the list comes twice
abbrev pub EachOnce : {N : Type 0} → List N → Type 0
EachOnce [] = Unit {0}
EachOnce (x ∷ xs) = (Among xs x → ⊥) × EachOnce xs

-- exactly the nodes below the root, itself among them, each once, with rising paths
pub record IsWholeList {N L : Type 0} (lt : L → L → Type 0) (up : N → L → N → Type 0) (root : N) (nodes : List N) : Type 0 where
  pub paths : List (List L)
  pub lead : LeadTo up root paths nodes
  pub rises : Rises lt paths
  pub all : (x : N) (q : List L) → Leads up root q x → Among nodes x
  pub once : EachOnce nodes

-- there is a list of all that is below a node, and it has at most so many nodes
pub record IsFinite {N L : Type 0} (lt : L → L → Type 0) (up : N → L → N → Type 0) (top : N) (most : ℕ) : Type 0 where
  pub nodes : List N
  pub leaves : Leaves lt up Before top 0 nodes
  pub few : length nodes ≤ most

-- a parent
pub record Parent {N L : Type 0} (up : N → L → N → Type 0) (v : N) : Type 0 where
  pub label : L
  pub node : N
  pub is : up v label node

-- the way up from a node ends at the root
pub record IsRootOf {N L : Type 0} (up : N → L → N → Type 0) (node root : N) : Type 0 where
  pub is_root : IsRoot up root
  pub path : List L
  pub leads : Leads up root path node

-- the whole list has the node, and what follows it there is what the walker has left
pub record GoesOn {T N L : Type 0} (lt : L → L → Type 0) (up : T → N → L → N → Type 0) (nodes : List N) (node : N) (p : Standing T N L) : Type 0 where
  pub front : List N
  pub rest : List N
  pub whole : nodes ≡ front ++ node ∷ rest
  pub left : IsLeftAt lt up p rest

-- the walker's depth is that below the root, and in the root's list it goes on after the node
pub record StandsAfter {T N L : Type 0} (lt : L → L → Type 0) (up : T → N → L → N → Type 0) (node root : N) (p : Standing T N L) : Type 0 where
  pub path : List L
  pub at : StandsBelow (up p.tree) root path node p.depth
  pub goes_on : (nodes : List N) → Leaves lt (up p.tree) Before root 0 nodes → GoesOn lt up nodes node p

-- the root, and the node's depth below it
pub record IsRootAt {N L : Type 0} (up : N → L → N → Type 0) (node root : N) (depth : ℕ) : Type 0 where
  pub is_root : IsRoot up root
  pub path : List L
  pub at : StandsBelow up root path node depth
