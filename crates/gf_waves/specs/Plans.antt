-- How a row is cut up for a wave, dealt out to batches, and put together again.
-- Laws: proofs/PlanLaws.antt.
use Rattle.std.specs.Prelude.{◌≡◌, ◌<◌, ◌≤◌, ◌+◌, min, length, map, slice_index_or, ℕ, zero, suc, List, [], ◌∷◌, ◌++◌}
use Rattle.std.specs.List.{All}
use Rattle.std.specs.Vec.{vec_capacity}
use Rattle.std.specs.VecDeque.{deque_capacity}
use Rattle.gf_reverse_search.specs.Standing.{Standing}
use Rattle.gf_reverse_search.specs.declared.expand.Piece.{Piece}
use Rattle.gf_waves.specs.declared.batch.Slot.{Slot}
use Rattle.gf_waves.specs.declared.batch.Batch.{Batch}
use Rattle.gf_waves.specs.Frontier.{batch_number, first_batch, behind_batch}
use Rattle.gf_waves.specs.Wave.{ExpandsOn, IsExpansion}

-- ---- cutting up

-- the cell has no pieces yet, and room for those that it may have
abbrev pub IsSpare : {T N L E : Type 0} → Slot T N L E → Type 0
IsSpare s = (s.row.items ≡ []) × (64 ≤ deque_capacity s.row)

-- each of them
abbrev pub AreSpare : {T N L E : Type 0} → List (Slot T N L E) → Type 0
AreSpare [] = Unit {0}
AreSpare (s ∷ ss) = IsSpare s × AreSpare ss

-- the cell has at most eight pieces, and room for all that they may become
abbrev pub IsFit : {T N L E : Type 0} → Slot T N L E → Type 0
IsFit s = (length s.row.items ≤ 8) × (64 ≤ deque_capacity s.row)

-- each of them
abbrev pub AreFit : {T N L E : Type 0} → List (Slot T N L E) → Type 0
AreFit [] = Unit {0}
AreFit (s ∷ ss) = IsFit s × AreFit ss

-- so many cells have the first pieces of a row, one after another; and the tail is what is behind
abbrev pub IsPlanned : {T N L E : Type 0} → ℕ → List (Piece T N L E) → List (Slot T N L E) → List (Piece T N L E) → Type 0
IsPlanned zero olds slots tail = (slots ≡ []) × (tail ≡ olds)
IsPlanned {T} {N} {L} {E} (suc m) olds slots tail =
    (slot : Slot T N L E) × (ss : List (Slot T N L E)) × (slots ≡ slot ∷ ss) × IsFit slot × (slot.row.items ≡ first_batch 8 1 olds) × IsPlanned m
    (behind_batch 8 1 olds) ss tail

-- ---- dealing out

-- a row without pieces, which has room for those of a cell
abbrev pub IsSpareRow : {P : Type 0} → List P → ℕ → Type 0
IsSpareRow pieces capacity = (pieces ≡ []) × (64 ≤ capacity)

-- the batches have no cells yet, and room for so many
abbrev pub AreFreeBatches : {T N L E : Type 0} → ℕ → List (Batch T N L E) → Type 0
AreFreeBatches m [] = Unit {0}
AreFreeBatches m (j ∷ js) = (j.slots.items ≡ []) × (j.worked.items ≡ []) × (m ≤ vec_capacity j.slots) × (m ≤ vec_capacity j.worked) ×
    IsSpareRow j.spare.items (deque_capacity j.spare) × AreFreeBatches m js

-- their numbers are n and those after it; at its last value a number stays
abbrev pub AreNumbered : {T N L E : Type 0} → ℕ → List (Batch T N L E) → Type 0
AreNumbered n [] = Unit {0}
AreNumbered n (j ∷ js) = (j.number ≡ batch_number n) × AreNumbered (n + 1) js

-- the first cell is the first batch's, and the others are dealt out from the next batch on, the first batch last
abbrev pub IsDealt : {T N L E : Type 0} → List (Slot T N L E) → List (List (Slot T N L E)) → Type 0
IsDealt [] hands = All (λ ss. ss ≡ []) hands
IsDealt (s ∷ ss) [] = ⊥
IsDealt {T} {N} {L} {E} (s ∷ ss) (h ∷ hands) = (rest : List (Slot T N L E)) × (h ≡ s ∷ rest) × IsDealt ss (hands ++ rest ∷ [])

-- the cells of each batch
abbrev pub hands_of : {T N L E : Type 0} → List (Batch T N L E) → List (List (Slot T N L E))
hands_of [] = []
hands_of (j ∷ js) = j.slots.items ∷ hands_of js

-- ---- working

-- a walker is expanded before a row
abbrev pub IsExpanded : {T N L E : Type 0} → (L → L → Type 0) → (T → N → L → N → Type 0) → (Standing T N L → E → Type 0) → Standing T N L →
    List (Piece T N L E) → List (Piece T N L E) → Type 0
IsExpanded {T} {N} {L} {E} lt up refuses w olds news = (front : List (Piece T N L E)) × (news ≡ front ++ olds) × IsExpansion lt up refuses w front

-- some pieces are done with: what the others may become with the expansions and the room that are left, that stands behind these
abbrev pub IsOn : {T N L E : Type 0} → (L → L → Type 0) → (T → N → L → N → Type 0) → (Standing T N L → E → Type 0) → ℕ → ℕ → List (Piece T N L E) →
    List (Piece T N L E) → ℕ → ℕ → List (Piece T N L E) → List (Piece T N L E) → Type 0
IsOn {T} {N} {L} {E} lt up refuses left room dones olds less fewer more rest =
    (first : List (Piece T N L E)) × (more ≡ dones ++ first) × ((j i : ℕ) (news : List (Piece T N L E)) → ExpandsOn lt up refuses less fewer rest j i news →
    ExpandsOn lt up refuses left room olds j i (first ++ news))

-- a batch's cells are worked on, one after another, with what the ones before have left, room for 56 pieces at most; and none grows by more
-- than it uses up
abbrev pub AreExpanded : {T N L E : Type 0} → (L → L → Type 0) → (T → N → L → N → Type 0) → (Standing T N L → E → Type 0) → ℕ → ℕ → List (Slot T N L E) →
    List (List (Piece T N L E)) → Type 0
AreExpanded lt up refuses k n [] rows = rows ≡ []
AreExpanded lt up refuses k n (s ∷ ss) [] = ⊥
AreExpanded lt up refuses k n (s ∷ ss) (row ∷ rows) =
    (j : ℕ) × (i : ℕ) × ExpandsOn lt up refuses k n s.row.items j i row × (length row + i ≤ length s.row.items + n) × AreExpanded lt up refuses j (min i 56)
    ss rows

-- the batch has cells that are to be worked on, and room for what they become
abbrev pub IsBatchFit : {T N L E : Type 0} → Batch T N L E → Type 0
IsBatchFit j = AreFit j.slots.items × (j.worked.items ≡ []) × (length j.slots.items ≤ vec_capacity j.worked) ×
    IsSpareRow j.spare.items (deque_capacity j.spare)

-- each of them, by its index
abbrev pub AreFitAt : {T N L E : Type 0} → List (Batch T N L E) → Type 0
AreFitAt {T} {N} {L} {E} js = (i : ℕ) (d : Batch T N L E) → i < length js → IsBatchFit (slice_index_or js i d)

-- what a batch has made of its cells
abbrev pub worked_rows : {T N L E : Type 0} → Batch T N L E → List (List (Piece T N L E))
worked_rows j = map (λ d. d.items) j.worked.items

-- a batch's cells are worked on
abbrev pub IsWorked : {T N L E : Type 0} → (L → L → Type 0) → (T → N → L → N → Type 0) → (Standing T N L → E → Type 0) → ℕ → ℕ → Batch T N L E → Batch T N L E →
    Type 0
IsWorked lt up refuses times room old new = AreExpanded lt up refuses times room old.slots.items (worked_rows new)

-- the same of several batches, index by index
pub record AreWorkedAt {T N L E : Type 0} (lt : L → L → Type 0) (up : T → N → L → N → Type 0) (refuses : Standing T N L → E → Type 0) (times room : ℕ)
    (olds news : List (Batch T N L E)) : Type 0 where
  pub same_length : length news ≡ length olds
  pub each : (i : ℕ) (d : Batch T N L E) → i < length olds → IsWorked lt up refuses times room (slice_index_or olds i d) (slice_index_or news i d)

-- ---- putting together

-- what the batches have made of so many cells, taken from the batches in turn, a row from each, one after another
abbrev pub gather : {T N L E : Type 0} → ℕ → List (List (List (Piece T N L E))) → List (Piece T N L E)
gather zero piles = []
gather (suc m) [] = []
gather (suc m) ([] ∷ piles) = gather m (piles ++ [] ∷ [])
gather (suc m) ((row ∷ rows) ∷ piles) = row ++ gather m (piles ++ rows ∷ [])

-- what each batch has made
abbrev pub piles_of : {T N L E : Type 0} → List (Batch T N L E) → List (List (List (Piece T N L E)))
piles_of [] = []
piles_of (j ∷ js) = worked_rows j ∷ piles_of js

-- the rows of these batches in turn
abbrev pub gathered : {T N L E : Type 0} → ℕ → List (Batch T N L E) → List (Piece T N L E)
gathered m js = gather m (piles_of js)
