-- What a walker has left, as a list of nodes in the order of their paths.
-- Laws: proofs/ListLaws.antt, proofs/KeptLaws.antt.
use Rattle.std.specs.Prelude.{◌≡◌, ℕ, List, [], ◌∷◌, ◌⊎◌, Option, Some, None}
use Rattle.gf_reverse_search.specs.declared.mark.Mark.{Mark}
use Rattle.gf_reverse_search.specs.Path.{Leads, IsPath, Precedes}
use Rattle.gf_reverse_search.specs.Left.{IsLeft}
use Rattle.gf_reverse_search.specs.Standing.{Standing, StandsBelow}

-- x is an element of the list
abbrev pub Among : {X : Type 0} → List X → X → Type 0
Among [] x = ⊥
Among (y ∷ ys) x = (y ≡ x) ⊎ Among ys x

-- each path of the list comes before all that follow it
abbrev pub Rises : {L : Type 0} → (L → L → Type 0) → List (List L) → Type 0
Rises lt [] = Unit {0}
Rises {L} lt (p ∷ ps) = ((q : List L) → Among ps q → Precedes lt p q) × Rises lt ps

-- the list has the nodes that these paths lead to, in the order of the paths
abbrev pub LeadTo : {N L : Type 0} → (N → L → N → Type 0) → N → List (List L) → List N → Type 0
LeadTo up top [] [] = Unit {0}
LeadTo up top [] (x ∷ xs) = ⊥
LeadTo up top (p ∷ ps) [] = ⊥
LeadTo up top (p ∷ ps) (x ∷ xs) = Leads up top p x × LeadTo up top ps xs

-- the nodes whose paths are left, each once, in the order of their paths
pub record Lists {N L : Type 0} (lt : L → L → Type 0) (up : N → L → N → Type 0) (top : N) (m : Mark L) (r : List L) (nodes : List N) : Type 0 where
  pub paths : List (List L)
  pub lead : LeadTo up top paths nodes
  pub rises : Rises lt paths
  pub all : (q : List L) → IsPath up top q → IsLeft lt m r q → Among paths q
  pub only : (q : List L) → Among paths q → IsLeft lt m r q

-- what is left for a walker at a node, by its mark and depth
pub record Leaves {N L : Type 0} (lt : L → L → Type 0) (up : N → L → N → Type 0) (m : Mark L) (here : N) (depth : ℕ) (nodes : List N) : Type 0 where
  pub top : N
  pub path : List L
  pub at : StandsBelow up top path here depth
  pub lists : Lists lt up top m path nodes

-- what a walker has left
abbrev pub IsLeftAt : {T N L : Type 0} → (L → L → Type 0) → (T → N → L → N → Type 0) → Standing T N L → List N → Type 0
IsLeftAt lt up p nodes = Leaves lt (up p.tree) p.mark p.here p.depth nodes

-- the answer is the first of what was left, and the rest is left; or nothing was
abbrev pub IsFirstOf : {N : Type 0} → (List N → Type 0) → List N → Option N → Type 0
IsFirstOf {N} Left whole (Some v) = (rest : List N) × (whole ≡ v ∷ rest) × Left rest
IsFirstOf {N} Left whole None = (whole ≡ []) × Left []
