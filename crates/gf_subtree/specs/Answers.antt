-- What a call of waves answers, and what it leaves. Laws: proofs/BasisRowLaws.antt.
use Rattle.std.specs.Prelude.{◌≡◌, ◌⊎◌, ◌+◌, ◌≤◌, ℕ, suc, List, [], ◌∷◌, Option, Some, None, ℤ}
use Rattle.std.specs.declared.result.Result.{Result}
use Rattle.std.specs.declared.result.Result.TheVariants.{Err}
use Rattle.gf_poly.specs.Marking.{MarkedPolynomials}
use Rattle.gf_reverse_search.specs.Listing.{Among}
use Rattle.gf_reverse_search.specs.Standing.{Standing}
use Rattle.gf_reverse_search.specs.declared.expand.Piece.TheVariants.{Under}
use Rattle.gf_waves.specs.Frontier.{IsFrontRefused}
use Rattle.gf_waves.specs.Wave.{IsCall}
use Rattle.gf_facets_theory.specs.LexPositive.{IsBefore}
use Rattle.gf_reverse_theory.specs.Upward.{Fan, IsNodeIn, IsNode}
use Rattle.gf_tree.specs.declared.tree.BasisTree.{BasisTree}
use Rattle.gf_tree.specs.TreeError.{TreeError}
use Rattle.gf_tree.specs.TreeError.TheVariants.{Memory}
use Rattle.gf_tree.specs.Refusals.{IsCallRefusal}
use Rattle.gf_tree.specs.Walks.{Walk, AreLeft}
use Rattle.gf_subtree.specs.Rows.{Row, up_in, RefusesWalker, ideal_in, row_left_at_most, AreLeftIn}

-- ---- the next basis

-- the workers, the budget, the region and the ideal stay
pub record IsSameList (old new : Row) : Type 0 where
  pub workers : new.frontier.workers ≡ old.frontier.workers
  pub pairs : new.pairs ≡ old.pairs
  pub region : new.region ≡ old.region
  pub start : new.start ≡ old.start

-- v is given: a basis of the ideal, the first of those that were left; the others are left, and they are fewer
pub record IsNextRow (old new : Row) (v : MarkedPolynomials) : Type 0 where
  pub same : IsSameList old new
  pub given : new.given ≡ old.given + 1
  pub basis : IsNodeIn (ideal_in old) v
  pub own : IsNode old.region v
  pub fewer : suc (row_left_at_most new) ≤ row_left_at_most old
  pub first : (nodes : List MarkedPolynomials) → AreLeftIn old nodes → (rest : List MarkedPolynomials) × (nodes ≡ v ∷ rest) × AreLeftIn new rest

-- nothing was left, and nothing is
pub record IsRowEnd (old new : Row) : Type 0 where
  pub same : IsSameList old new
  pub given : new.given ≡ old.given
  pub none : (nodes : List MarkedPolynomials) → AreLeftIn old nodes → nodes ≡ []
  pub nothing : AreLeftIn old []
  pub over : AreLeftIn new []

-- the first basis of what was left, or that nothing was
abbrev pub IsRowAnswer : Row → Row → Option MarkedPolynomials → Type 0
IsRowAnswer old new (Some v) = IsNextRow old new v
IsRowAnswer old new None = IsRowEnd old new

-- what was left is left
pub record IsRowKept (old new : Row) : Type 0 where
  pub same : IsSameList old new
  pub given : new.given ≡ old.given
  pub left : (nodes : List MarkedPolynomials) → AreLeftIn old nodes → AreLeftIn new nodes

-- ---- what a call does

-- a wave where one is due, and then the first basis is taken out of the row, as `gf_waves` says it of every tree; or there was no memory,
-- and nothing is done
abbrev pub IsRowCall : Row → Result (Option MarkedPolynomials) TreeError → Row → Type 0
IsRowCall old answer new = IsCall IsBefore up_in RefusesWalker (λ e. e ≡ Memory) old.frontier answer new.frontier ⊎ ((answer ≡ Err Memory) × (new ≡ old))

-- a refusal is that of the walker in front, which has the next basis: the first in list order; or there is no memory
abbrev pub IsToldInFront : Row → TreeError → Type 0
IsToldInFront row e = IsFrontRefused RefusesWalker row.frontier.pieces e ⊎ (e ≡ Memory)

-- the basis isn't one of these behind the first of them
abbrev pub IsNotLater : List MarkedPolynomials → MarkedPolynomials → Type 0
IsNotLater [] v = Unit {0}
IsNotLater (x ∷ rest) v = Among rest v → ⊥

-- why the next basis isn't given, where these are left: a call at a basis of the ideal that is given already, or is the first of them, is
-- refused so; or there is no memory
pub data IsRefusedEarly (F : Fan) (pairs : ℕ) (nodes : List MarkedPolynomials) (e : TreeError) : Type 0 where
  at : (v : MarkedPolynomials) → IsNodeIn F v → IsNotLater nodes v → IsCallRefusal F.region pairs v e → IsRefusedEarly F pairs nodes e
  memory : e ≡ Memory → IsRefusedEarly F pairs nodes e

-- ---- going on where a walker stands

-- the walker is the row's one piece, and what it has left is what is left
pub record IsResumedAs (walk : Walk) (number : ℕ) (row : Row) : Type 0 where
  pub workers : row.frontier.workers ≡ number
  pub batches : row.frontier.batches ≡ 0
  pub standing : Standing BasisTree MarkedPolynomials (List ℤ)
  pub piece : row.frontier.pieces ≡ Under standing ∷ []
  pub here : standing.here ≡ walk.here
  pub mark : standing.mark ≡ walk.mark
  pub depth : standing.depth ≡ walk.depth
  pub pairs : row.pairs ≡ walk.pairs
  pub region : row.region ≡ walk.region
  pub start : row.start ≡ walk.here
  pub given : row.given ≡ 0
  pub list : (nodes : List MarkedPolynomials) → AreLeft walk nodes → AreLeftIn row nodes
