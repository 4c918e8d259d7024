-- The writing of the list of `_bases`: pieces, and how many bases may still be written. Laws: proofs/BasesLaws.antt.
use Rattle.std.specs.Prelude.{◌≡◌, ℕ, ◌+◌, Bool, true, false, List, [], ◌∷◌, ◌++◌, length, Option, None, Some}
use Rattle.std.specs.Io.KnownBytes.{Appends, Keeps}
use Rattle.gf_outside.specs.Faults.{Rose}
use Rattle.gf_outside.specs.Moved.{AppendsPrefix}
use Rattle.gf_poly.specs.Polynomial.{Terms}
use Rattle.gf_poly.specs.Marking.{MarkedPolynomials}
use Rattle.gf_text.specs.RingText.{ring_text}
use Rattle.gf_reverse_theory.specs.Upward.{IsNodeIn}
use Rattle.gf_facets_theory.specs.Regions.{Region}
use Rattle.gf_tree.specs.Ideals.{ideal_within}
use Rattle.gf_subtree.specs.Rows.{Row, AreLeftIn}
use Rattle.gf_front.specs.declared.refusal.Refusal.{Refusal}
use Rattle.gf_front.specs.declared.refusal.Refusal.TheVariants as refusals
use Rattle.gfan_lists.specs.declared.bases.ListOptions.{ListOptions}
use Rattle.gfan_lists.specs.declared.bases.Room.{Room}
use Rattle.gfan_lists.specs.declared.bases.Room.TheVariants.{Endless, Limited}
use Rattle.gf_lists_theory.specs.BasesList.{AreAllBasesIn}
use Rattle.gfan_lists.specs.Certificates.{IsItemTextIn, IsItemRefusalIn}
use Rattle.gfan_lists.specs.Bases.{later_item_text, AreItemTextsIn, IsTextBehind, IsFullTextBehind, IsBegunWhereBehind, begun_text}

-- ---- pieces

-- the piece of the item of a basis: for the first one the line of the ring and a brace, for each other one a separator, and then the item
abbrev pub basis_piece : List (List ℕ) → Bool → List ℕ → List ℕ
basis_piece ring true t = ring_text ring ++ 123 ∷ t
basis_piece ring false t = later_item_text t

-- piece is the piece of the basis b in a region
pub record IsPieceOf (certified : Bool) (ring : List (List ℕ)) (k : Region) (is_first : Bool) (b : MarkedPolynomials) (piece : List ℕ) : Type 0 where
  pub item : List ℕ
  pub is_item : IsItemTextIn certified ring k b item
  pub is_piece : piece ≡ basis_piece ring is_first item

-- the piece of the basis b was appended to the output
abbrev pub IsBasisWritten : Bool → List (List ℕ) → Region → Bool → MarkedPolynomials → Option (List ℕ) → Option (List ℕ) → Type 0
IsBasisWritten certified ring k is_first b held holds = (piece : List ℕ) × IsPieceOf certified ring k is_first b piece × Appends held holds piece

-- why a piece isn't written completely: memory runs out, and nothing of it is written; or a write failed, and a prefix of it is
abbrev pub IsUnwritten : Option (List ℕ) → Option (List ℕ) → ℕ → ℕ → List ℕ → Refusal → Type 0
IsUnwritten held holds written writes piece refusals.WriteFault = Rose written writes × AppendsPrefix held holds piece
IsUnwritten held holds written writes piece refusals.Memory = Keeps held holds × (writes ≡ written)
IsUnwritten held holds written writes piece _ = ⊥

-- why a basis isn't written: its piece can't be made, and nothing is written; or it is made, and isn't written completely
pub data IsBasisUnwritten (certified : Bool) (ring : List (List ℕ)) (k : Region) (is_first : Bool) (b : MarkedPolynomials) (held holds : Option (List ℕ))
    (written writes : ℕ) (r : Refusal) : Type 0 where
  unmade : holds ≡ held → writes ≡ written → IsItemRefusalIn certified k b r → IsBasisUnwritten certified ring k is_first b held holds written writes r
  cut : (piece : List ℕ) → IsPieceOf certified ring k is_first b piece → IsUnwritten held holds written writes piece r →
      IsBasisUnwritten certified ring k is_first b held holds written writes r

-- ---- room

-- with the bases that are written, room has exactly the number of bases that may still be written up to the limit
abbrev pub HasRoomFor : Option ℕ → Room → List MarkedPolynomials → Type 0
HasRoomFor None Endless written = Unit {0}
HasRoomFor None (Limited limit left) written = ⊥
HasRoomFor (Some most) Endless written = ⊥
HasRoomFor (Some most) (Limited limit left) written = (limit ≡ most) × (length written + left ≡ most)

-- the second is the room after one more basis is written
abbrev pub IsOneLess : Room → Room → Type 0
IsOneLess Endless Endless = Unit {0}
IsOneLess Endless (Limited limit left) = ⊥
IsOneLess (Limited limit left) Endless = ⊥
IsOneLess (Limited limit left) (Limited same less) = (same ≡ limit) × (less + 1 ≡ left)

-- no further basis may be written, and r has the limit
abbrev pub IsFull : Room → Refusal → Type 0
IsFull Endless r = ⊥
IsFull (Limited limit left) r = (left ≡ 0) × (r ≡ refusals.ListLimit limit)

-- ---- the list

-- the row has left what follows these bases in the list of all bases of the ideal of fs in n variables and in a region
pub record GoesOnBehind (before : List MarkedPolynomials) (n : ℕ) (k : Region) (fs : List Terms) (budget : ℕ) (row : Row) : Type 0 where
  pub rest : List MarkedPolynomials
  pub are_all : AreAllBasesIn n k fs (before ++ rest)
  pub left : AreLeftIn row rest
  pub basis : IsNodeIn (ideal_within n fs k) row.start
  pub pairs : row.pairs ≡ budget
  pub region : row.region ≡ k

-- the text of all bases of the ideal of fs in a region that follow these was appended to the output
abbrev pub IsListWrittenBehind : List MarkedPolynomials → ListOptions → List (List ℕ) → Region → List Terms → Option (List ℕ) → Option (List ℕ) → Type 0
IsListWrittenBehind before o ring k fs held holds = (text : List ℕ) × IsTextBehind before o.certified o.limit ring k fs text × Appends held holds text

-- the beginning of that text that stands when the list is refused with r was appended to the output
abbrev pub IsListBegunBehind : List MarkedPolynomials → ListOptions → List (List ℕ) → Region → List Terms → Option (List ℕ) → Option (List ℕ) → Refusal → Type 0
IsListBegunBehind before o ring k fs held holds r = (text : List ℕ) × IsBegunWhereBehind before o ring k fs text r × Appends held holds text

-- what was appended to the output when the list after these bases is refused: if a write failed, a prefix of all that is written where nothing
-- stops it; otherwise the bases up to the one at which it is refused
abbrev pub IsListStoppedBehind : List MarkedPolynomials → ListOptions → List (List ℕ) → Region → List Terms → Option (List ℕ) → Option (List ℕ) → ℕ → ℕ →
    Refusal → Type 0
IsListStoppedBehind before o ring k fs held holds written writes refusals.WriteFault =
    Rose written writes × ((text : List ℕ) × IsFullTextBehind before o ring k fs text × AppendsPrefix held holds text)
IsListStoppedBehind before o ring k fs held holds written writes r = IsListBegunBehind before o ring k fs held holds r

-- the piece that ends the list: a closing brace; if no basis was written, the line of the ring and an opening brace before it
abbrev pub end_piece : List (List ℕ) → Bool → List ℕ
end_piece ring true = ring_text ring ++ 123 ∷ 125 ∷ 10 ∷ []
end_piece ring false = 125 ∷ 10 ∷ []

-- true if nothing is written yet
abbrev pub is_none_of : List (List ℕ) → Bool
is_none_of [] = true
is_none_of (t ∷ ts) = false

-- the list after these bases is written in part: some of its bases are written, and the row has left the rest
pub record IsUnderWay (before : List MarkedPolynomials) (o : ListOptions) (ring : List (List ℕ)) (k : Region) (fs : List Terms) (row : Row) (room : Room)
    (is_first : Bool) (held holds : Option (List ℕ)) : Type 0 where
  pub written : List MarkedPolynomials
  pub rest : List MarkedPolynomials
  pub are_all : AreAllBasesIn (length ring) k fs (before ++ (written ++ rest))
  pub left : AreLeftIn row rest
  pub basis : IsNodeIn (ideal_within (length ring) fs k) row.start
  pub pairs : row.pairs ≡ o.pairs
  pub region : row.region ≡ k
  pub fits : HasRoomFor o.limit room written
  pub items : List (List ℕ)
  pub are_items : AreItemTextsIn o.certified ring k written items
  pub first : is_first ≡ is_none_of items
  pub gained : Appends held holds (begun_text ring items)
