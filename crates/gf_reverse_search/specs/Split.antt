-- A walker's work in two parts.
-- Laws: proofs/CutLaws.antt, proofs/SplitLaws.antt.
use Rattle.std.specs.Prelude.{◌≡◌, List, [], ◌∷◌, ◌++◌, Some}
use Rattle.gf_reverse_search.specs.declared.mark.Mark.TheVariants.{Before, Listed, Finished}
use Rattle.gf_reverse_search.specs.declared.split.Split.{Split}
use Rattle.gf_reverse_search.specs.declared.split.Split.TheVariants.{Ended, Parts}
use Rattle.gf_reverse_search.specs.Standing.{Standing}
use Rattle.gf_reverse_search.specs.Listing.{IsLeftAt}
use Rattle.gf_reverse_search.specs.Walk.{Steps, IsOver}

-- ---- where the two parts stand

-- the first stands before the walker's next node, its own top; the second stands at that node, below the walker's top, done with all below it
pub record AreCutAt {T N L : Type 0} (lt : L → L → Type 0) (up : T → N → L → N → Type 0) (old first rest : Standing T N L) : Type 0 where
  pub next : Steps lt (up old.tree) old.mark old.here old.depth Listed rest.here rest.depth (Some first.here)
  pub before : first.mark ≡ Before
  pub top : first.depth ≡ 0
  pub past : rest.mark ≡ Finished

-- nothing is left, or the two parts stand so
abbrev pub IsCutAt : {T N L E : Type 0} → (L → L → Type 0) → (T → N → L → N → Type 0) → Standing T N L → Split T N L E → Type 0
IsCutAt lt up old Ended = IsOver lt up old
IsCutAt lt up old (Parts first rest) = AreCutAt lt up old first rest

-- ---- what the two parts list

-- the first lists the next node with its whole subtree, and the second lists what follows
pub record AreSplitParts {T N L : Type 0} (lt : L → L → Type 0) (up : T → N → L → N → Type 0) (nodes : List N) (first rest : Standing T N L) : Type 0 where
  pub front : List N
  pub back : List N
  pub whole : nodes ≡ first.here ∷ (front ++ back)
  pub under : IsLeftAt lt up first (first.here ∷ front)
  pub past : IsLeftAt lt up rest back

-- nothing was left, or the two parts list it, one after the other
abbrev pub Splits : {T N L E : Type 0} → (L → L → Type 0) → (T → N → L → N → Type 0) → List N → Split T N L E → Type 0
Splits lt up nodes Ended = nodes ≡ []
Splits lt up nodes (Parts first rest) = AreSplitParts lt up nodes first rest

-- both parts walk the same tree
abbrev pub HaveTree : {T N L E : Type 0} → T → Split T N L E → Type 0
HaveTree t Ended = Unit {0}
HaveTree t (Parts first rest) = (first.tree ≡ t) × (rest.tree ≡ t)
