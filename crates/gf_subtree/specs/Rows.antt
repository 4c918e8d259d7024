-- The list of all bases of an ideal as several workers work it off: a row of pieces in list order, each a ready basis or a walker for
-- what is between and behind them.
-- Laws: proofs/RowLaws.antt, proofs/BasisRowLaws.antt.
use Rattle.std.specs.Prelude.{◌≡◌, ◌⊎◌, ℕ, ◌+◌, ◌-◌, ◌*◌, ◌≤◌, List, [], ◌∷◌, ◌++◌, length, ℤ}
use Rattle.std.specs.Global.{Global}
use Rattle.gf_poly.specs.Marking.{MarkedPolynomials}
use Rattle.gf_reverse_search.specs.Standing.{Standing}
use Rattle.gf_reverse_search.specs.Path.{Precedes}
use Rattle.gf_reverse_search.specs.Listing.{Among, IsLeftAt, Rises}
use Rattle.gf_reverse_search.specs.Pieces.{PiecesLeave, RefusesAt}
use Rattle.gf_reverse_search.specs.declared.mark.Mark.TheVariants.{Listed}
use Rattle.gf_reverse_search.specs.declared.expand.Piece.{Piece}
use Rattle.gf_reverse_search.specs.declared.expand.Piece.TheVariants.{Ready, Under, Refused}
use Rattle.gf_waves.specs.Frontier.{Frontier, AreRefusals}
use Rattle.gf_facets_theory.specs.LexPositive.{IsBefore}
use Rattle.gf_facets_theory.specs.Regions.{Region}
use Rattle.gf_reverse_theory.specs.Upward.{Fan, IsNodeIn, IsParent, fan_of}
use Rattle.gf_reverse_theory.specs.Lists.{IsPathOf}
use Rattle.gf_reverse_theory.proofs.TreeLaws.{count}
use Rattle.gf_tree.specs.declared.tree.BasisTree.{BasisTree}
use Rattle.gf_tree.specs.TreeError.{TreeError}
use Rattle.gf_tree.specs.Refusals.{IsCallRefusal}

-- ---- the tree of bases

-- its parents
abbrev pub up_in : BasisTree → MarkedPolynomials → List ℤ → MarkedPolynomials → Type 0
up_in t = IsParent t.region

-- why a walker over it is refused: a call of the tree at its basis, or above, is
abbrev pub RefusesWalker : Standing BasisTree MarkedPolynomials (List ℤ) → TreeError → Type 0
RefusesWalker = RefusesAt up_in (λ t v e. IsCallRefusal t.region t.pairs v e)

-- ---- rows

-- the row of pieces with the number of workers and that of the next batch; how many pairs each flip may settle; the region; the basis of the
-- ideal with which it began; and how many bases were given so far
pub record Row : Type 0 where
  pub frontier : Frontier BasisTree MarkedPolynomials (List ℤ) TreeError
  pub pairs : ℕ
  pub region : Region
  pub start : MarkedPolynomials
  pub given : ℕ

-- the ideal whose bases are listed
abbrev pub ideal_in : Row → Fan
ideal_in r = fan_of r.region r.start

-- no more bases are given than this
abbrev pub row_left_at_most : Row → ℕ
row_left_at_most r = count r.region r.start - r.given

-- ---- what is left

-- these are the paths from the root down to these bases, one by one
abbrev pub HavePaths : Region → List (List (List ℤ)) → List MarkedPolynomials → Type 0
HavePaths k [] [] = Unit {0}
HavePaths k [] (x ∷ xs) = ⊥
HavePaths k (p ∷ ps) [] = ⊥
HavePaths k (p ∷ ps) (x ∷ xs) = IsPathOf k x p × HavePaths k ps xs

-- piece by piece, as `PiecesLeave` has it, with the nodes `later` behind them: and no walker stands behind a node that it, a later piece or
-- `later` has; `early v x` says that v doesn't come behind x
abbrev pub LeaveInOrder : {T N L E : Type 0} → (Standing T N L → List N → Type 0) → (N → N → Type 0) → List N → List (Piece T N L E) → List N → Type 0
LeaveInOrder left early later [] nodes = nodes ≡ []
LeaveInOrder {N = N} left early later (Ready v ∷ ps) nodes = (rest : List N) × (nodes ≡ v ∷ rest) × LeaveInOrder left early later ps rest
LeaveInOrder {N = N} left early later (Under w ∷ ps) nodes =
    (front : List N) × (back : List N) × (nodes ≡ front ++ back) × left w front × ((x : N) → Among (nodes ++ later) x → early w.here x) ×
    LeaveInOrder left early later ps back
LeaveInOrder {N = N} left early later (Refused w e ∷ ps) nodes =
    (front : List N) × (back : List N) × (nodes ≡ front ++ back) × left w front × ((x : N) → Among (nodes ++ later) x → early w.here x) ×
    LeaveInOrder left early later ps back

-- v and x have paths from the root, and that of v doesn't come behind that of x
pub record IsNotBehind (k : Region) (v x : MarkedPolynomials) : Type 0 where
  pub path : List (List ℤ)
  pub other : List (List ℤ)
  pub of_path : IsPathOf k v path
  pub of_other : IsPathOf k x other
  pub early : (path ≡ other) ⊎ Precedes IsBefore path other

-- the bases that are left, each once, in the order of their paths: piece by piece the ready basis, or what the walker has left; no walker
-- stands behind what is left from it on
pub record AreLeftIn (r : Row) (nodes : List MarkedPolynomials) : Type 0 where
  pub pieces : PiecesLeave (IsLeftAt IsBefore up_in) r.frontier.pieces nodes
  pub paths : List (List (List ℤ))
  pub lead : HavePaths r.region paths nodes
  pub rises : Rises IsBefore paths
  pub order : LeaveInOrder (IsLeftAt IsBefore up_in) (IsNotBehind r.region) [] r.frontier.pieces nodes

-- the tree has this region and this budget, and v is a basis of the ideal
pub record IsOfIdeal (F : Fan) (budget : ℕ) (t : BasisTree) (v : MarkedPolynomials) : Type 0 where
  pub region : t.region ≡ F.region
  pub pairs : t.pairs ≡ budget
  pub basis : IsNodeIn F v

-- `Is` holds of each ready node, and `In` of each node at which a walker over its tree stands
abbrev pub AreAmong : {T N L E : Type 0} → (T → N → Type 0) → (N → Type 0) → List (Piece T N L E) → Type 0
AreAmong In Is [] = Unit {0}
AreAmong In Is (Ready v ∷ ps) = Is v × AreAmong In Is ps
AreAmong In Is (Under w ∷ ps) = In w.tree w.here × AreAmong In Is ps
AreAmong In Is (Refused w e ∷ ps) = In w.tree w.here × AreAmong In Is ps

-- the row isn't too long; each piece is of the ideal, and each refusal its walker's; what is left is a list, and with what was given it
-- is no longer than that of all bases of the ideal
pub record HasRowLeft (r : Row) : Type 0 where
  pub own : IsNodeIn (ideal_in r) r.start
  pub bound : length r.frontier.pieces ≤ (r.frontier.workers + 1) * 128
  pub refusals : AreRefusals RefusesWalker r.frontier.pieces
  pub among : AreAmong (IsOfIdeal (ideal_in r) r.pairs) (IsNodeIn (ideal_in r)) r.frontier.pieces
  pub rest : List MarkedPolynomials
  pub left : AreLeftIn r rest
  pub few : length rest + r.given ≤ count r.region r.start

-- ---- how a row begins

-- a basis that is ready without a batch, and a walker at it for what is below
abbrev pub first_row : Global → MarkedPolynomials → Region → ℕ → ℕ → Row
first_row alloc root k workers pairs = record {
  frontier = record {
    workers = workers;
    batches = 0;
    pieces = Ready root ∷ Under (record { tree = record { alloc = alloc; region = k; pairs = pairs }; here = root; mark = Listed; depth = 0 }) ∷ [];
  };
  pairs = pairs;
  region = k;
  start = root;
  given = 0;
}
