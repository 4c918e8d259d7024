-- The bases that are taken out of a list before those in front of them are written, and their pieces. Laws: proofs/AheadLaws.antt.
use Rattle.std.specs.Prelude.{◌≡◌, ℕ, ◌<◌, Bool, false, List, [], ◌∷◌, length, slice_index_or, Option, None, Some, IfSome, MatchResult}
use Rattle.gf_facets_theory.specs.Regions.{Region}
use Rattle.gf_subtree.specs.Rows.{Row}
use Rattle.gf_subtree.specs.Answers.{IsNextRow, IsRowEnd, IsRowKept}
use Rattle.gfan_lists.specs.declared.ahead.Taken.{Taken}
use Rattle.gfan_lists.specs.Certificates.{IsItemRefusalIn}
use Rattle.gfan_lists.specs.BasesWriting.{IsPieceOf}

-- ---- pieces

-- the basis has so many variables
abbrev pub HasVariables : ℕ → Taken → Type 0
HasVariables n x = x.basis.variables ≡ n

-- where its piece is worked out, that is the piece of the basis, or why there is none
abbrev pub IsWorkedOut : Bool → List (List ℕ) → Region → Taken → Type 0
IsWorkedOut certified ring k x = IfSome x.piece (λ made. MatchResult made (λ text. IsPieceOf certified ring k x.is_first x.basis text.items)
    (λ r. IsItemRefusalIn certified k x.basis r))

-- the same basis, with its piece
pub record IsWorkedFrom (certified : Bool) (ring : List (List ℕ)) (k : Region) (old new : Taken) : Type 0 where
  pub basis : new.basis ≡ old.basis
  pub is_first : new.is_first ≡ old.is_first
  pub worked : IsWorkedOut certified ring k new

-- the same of several bases, index by index
pub record AreWorkedOutAt (certified : Bool) (ring : List (List ℕ)) (k : Region) (olds news : List Taken) : Type 0 where
  pub same_length : length news ≡ length olds
  pub each : (i : ℕ) (d : Taken) → i < length olds → IsWorkedFrom certified ring k (slice_index_or olds i d) (slice_index_or news i d)

-- ---- bases that were taken

-- these bases are the next ones of a row, one after another, and the others are left in another row; the first of them is the first one that is
-- written, or isn't, the others aren't; and their pieces are right where they are worked out
abbrev pub AreAhead : Bool → List (List ℕ) → Region → Bool → List Taken → Row → Row → Type 0
AreAhead certified ring k is_first [] row left = IsRowKept row left
AreAhead certified ring k is_first (x ∷ xs) row left =
    (next : Row) × IsNextRow row next x.basis × (x.is_first ≡ is_first) × IsWorkedOut certified ring k x × AreAhead certified ring k false xs next left

-- a basis is the first of those that were taken out of the row, and the others still are; or none was, and nothing is left
abbrev pub IsNextTaken : Bool → List (List ℕ) → Region → Bool → Row → Row → Option Taken → List Taken → Row → Type 0
IsNextTaken certified ring k is_first row old None ahead new = IsRowKept row old × IsRowEnd old new
IsNextTaken certified ring k is_first row old (Some x) ahead new = AreAhead certified ring k is_first (x ∷ ahead) row new
