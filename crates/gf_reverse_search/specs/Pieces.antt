-- A walker's list in pieces: its node, its children with their subtrees, and what follows.
-- lt orders labels, `up t` is the parent relation of the tree t, and `refuses w e` says that the walker at w may be refused so.
-- Laws: proofs/PiecesLaws.antt.
use Rattle.std.specs.Prelude.{◌≡◌, ℕ, ◌<◌, ◌≤◌, ◌+◌, length, List, [], ◌∷◌, ◌++◌, ◌⊎◌, Bool, true, false, Option, Some, None}
use Rattle.gf_reverse_search.specs.declared.mark.Mark.{Mark}
use Rattle.gf_reverse_search.specs.declared.mark.Mark.TheVariants.{Before, After, Listed}
use Rattle.gf_reverse_search.specs.declared.expand.Piece.{Piece}
use Rattle.gf_reverse_search.specs.declared.expand.Piece.TheVariants.{Ready, Under, Refused}
use Rattle.gf_reverse_search.specs.Left.{IsBelowMark}
use Rattle.gf_reverse_search.specs.Standing.{Standing}
use Rattle.gf_reverse_search.specs.Walk.{HasNoChild, IsLeastChild, IsRefused}

-- ---- what is left of pieces

-- piece by piece; `left w nodes` says what the walker at w has left
abbrev pub PiecesLeave : {T N L E : Type 0} → (Standing T N L → List N → Type 0) → List (Piece T N L E) → List N → Type 0
PiecesLeave left [] nodes = nodes ≡ []
PiecesLeave {N = N} left (Ready v ∷ ps) nodes = (rest : List N) × (nodes ≡ v ∷ rest) × PiecesLeave left ps rest
PiecesLeave {N = N} left (Under w ∷ ps) nodes = (front : List N) × (back : List N) × (nodes ≡ front ++ back) × left w front × PiecesLeave left ps back
PiecesLeave {N = N} left (Refused w e ∷ ps) nodes = (front : List N) × (back : List N) × (nodes ≡ front ++ back) × left w front × PiecesLeave left ps back

-- ---- the children of one node

-- a walker before its node, its own top
abbrev pub subtree : {T N L : Type 0} → T → N → Standing T N L
subtree t v = record { tree = t; here = v; mark = Before; depth = 0 }

-- the least children past a mark in order, each with its subtree, and the mark after the last
abbrev pub ArePiecesBelow : {T N L E : Type 0} → (L → L → Type 0) → (T → N → L → N → Type 0) → T → N → Mark L → List (Piece T N L E) → Mark L → Type 0
ArePiecesBelow lt up t u m [] m1 = m ≡ m1
ArePiecesBelow lt up t u m (Ready v ∷ ps) m1 = ⊥
ArePiecesBelow lt up t u m (Under w ∷ ps) m1 = (w ≡ subtree t w.here) × (h : IsLeastChild lt (up t) u m w.here) × ArePiecesBelow lt up t u (After h.label) ps m1
ArePiecesBelow lt up t u m (Refused w e ∷ ps) m1 = ⊥

-- the child under a label is added, with its subtree; or there is none
abbrev pub IsAdded : {T N L E : Type 0} → (T → N → L → N → Type 0) → T → N → L → List (Piece T N L E) → List (Piece T N L E) → Bool → Type 0
IsAdded {N = N} up t u c olds news true = (v : N) × up t v c u × (news ≡ olds ++ Under (subtree t v) ∷ [])
IsAdded {N = N} up t u c olds news false = ((v : N) → up t v c u → ⊥) × (news ≡ olds)

-- what a walker at a standing may be refused by
abbrev pub RefusesAt : {T N L E : Type 0} → (T → N → L → N → Type 0) → (T → N → E → Type 0) → Standing T N L → E → Type 0
RefusesAt up refuses w e = IsRefused (up w.tree) (refuses w.tree) w.here w.depth e

-- ---- what follows them

-- the walker has gone up a step, and stands after what it came from
pub record HasRisen {T N L : Type 0} (up : T → N → L → N → Type 0) (old new : Standing T N L) : Type 0 where
  pub tree : new.tree ≡ old.tree
  pub label : L
  pub step : up old.tree old.here label new.here
  pub mark : new.mark ≡ After label
  pub depth : new.depth + 1 ≡ old.depth

-- one step up; or there is none, where the depth is none or the node has no parent
abbrev pub IsRise : {N L : Type 0} → (N → L → N → Type 0) → N → ℕ → ℕ → Option (L × N) → Type 0
IsRise up v d d1 (Some p) = up v p.0 p.1 × (d1 + 1 ≡ d)
IsRise {N} {L} up v d d1 None = (d1 ≡ d) × ((c : L) (u : N) → up v c u → 0 < d → ⊥)

-- the walker is at its top
abbrev pub EndsAt : {T N L : Type 0} → (T → N → L → N → Type 0) → Standing T N L → Type 0
EndsAt {T} {N} {L} up w = (c : L) (u : N) → up w.tree w.here c u → 0 < w.depth → ⊥

-- what follows the children up to a walker's mark: nothing at the top, where no child is left; the walker a step up, where no child is left; the
-- walker itself, where there are as many as may be, or where a call was refused so
abbrev pub Follows : {T N L E : Type 0} → (L → L → Type 0) → (T → N → L → N → Type 0) → (Standing T N L → E → Type 0) → Standing T N L → Type 0 →
    List (Piece T N L E) → Type 0
Follows lt up refuses w Full [] = HasNoChild lt (up w.tree) w.here w.mark × EndsAt up w
Follows lt up refuses w Full (Ready v ∷ ps) = ⊥
Follows lt up refuses w Full (Under x ∷ ps) = (ps ≡ []) × (((x ≡ w) × Full) ⊎ (HasNoChild lt (up w.tree) w.here w.mark × HasRisen up w x))
Follows lt up refuses w Full (Refused x e ∷ ps) = (ps ≡ []) × (x ≡ w) × refuses w e

-- the children past a walker's mark, at most so many, and what follows them
pub record GoesDown {T N L E : Type 0} (lt : L → L → Type 0) (up : T → N → L → N → Type 0) (refuses : Standing T N L → E → Type 0) (most : ℕ)
    (w : Standing T N L)
    (pieces : List (Piece T N L E)) : Type 0 where
  pub below : List (Piece T N L E)
  pub rest : List (Piece T N L E)
  pub whole : pieces ≡ below ++ rest
  pub mark : Mark L
  pub listed : IsBelowMark lt w.mark [] → ⊥
  pub children : ArePiecesBelow lt up w.tree w.here w.mark below mark
  pub few : length below ≤ most
  pub follows : Follows lt up refuses (record { tree = w.tree; here = w.here; mark = mark; depth = w.depth }) (most ≤ length below) rest

-- what follows the children up to a walker's mark is put behind them, of which there are so many at most
abbrev pub IsFollowed : {T N L E : Type 0} → (L → L → Type 0) → (T → N → L → N → Type 0) → (Standing T N L → E → Type 0) → ℕ → Standing T N L →
    List (Piece T N L E) → List (Piece T N L E) → Type 0
IsFollowed {T} {N} {L} {E} lt up refuses most w olds news = (rest : List (Piece T N L E)) × (news ≡ olds ++ rest) × Follows lt up refuses w (most ≤ length olds)
    rest

-- the node of a walker that stands before it, and then its children and what follows
abbrev pub Opens : {T N L E : Type 0} → (L → L → Type 0) → (T → N → L → N → Type 0) → (Standing T N L → E → Type 0) → ℕ → Standing T N L →
    List (Piece T N L E) → Type 0
Opens {T} {N} {L} {E} lt up refuses most w pieces =
    (rest : List (Piece T N L E)) × (pieces ≡ Ready w.here ∷ rest) × GoesDown lt up refuses most (record {
      tree = w.tree;
      here = w.here;
      mark = Listed;
      depth = w.depth;
    }) rest

-- a walker's expansion: the node that it stands before, and then its children and what follows
abbrev pub Expands : {T N L E : Type 0} → (L → L → Type 0) → (T → N → L → N → Type 0) → (Standing T N L → E → Type 0) → ℕ → Standing T N L →
    List (Piece T N L E) → Type 0
Expands lt up refuses most w pieces =
    GoesDown lt up refuses most w pieces ⊎ ((w.mark ≡ Before) × Opens lt up refuses most w pieces)
