-- A list as a row of pieces: ready nodes, and walkers for what is between and behind them.
-- Laws: proofs/RefusedLaws.antt.
use Rattle.std.specs.Prelude.{ℕ, zero, suc, List, [], ◌∷◌, length, count_by, ◌≤◌, ◌*◌, ◌+◌, ◌-◌, ◌/◌, ◌^◌, min, Bool, true, false}
use Rattle.gf_reverse_search.specs.Standing.{Standing}
use Rattle.gf_reverse_search.specs.declared.expand.Piece.{Piece}
use Rattle.gf_reverse_search.specs.declared.expand.Piece.TheVariants.{Ready, Under, Refused}

-- the number of workers, the number of the next batch, and the pieces that are left, in list order
pub record Frontier (T N L E : Type 0) : Type 0 where
  pub workers : ℕ
  pub batches : ℕ
  pub pieces : List (Piece T N L E)

-- ---- pieces

-- the piece is a node
abbrev pub is_ready : {T N L E : Type 0} → Piece T N L E → Bool
is_ready (Ready v) = true
is_ready (Under w) = false
is_ready (Refused w e) = false

-- the piece is a walker whose expansion was refused
abbrev pub is_refused : {T N L E : Type 0} → Piece T N L E → Bool
is_refused (Ready v) = false
is_refused (Under w) = false
is_refused (Refused w e) = true

-- the piece, a walker without its refusal
abbrev pub renewed : {T N L E : Type 0} → Piece T N L E → Piece T N L E
renewed (Ready v) = Ready v
renewed (Under w) = Under w
renewed (Refused w e) = Under w

-- how many walkers a piece is
abbrev pub walkers_of : {T N L E : Type 0} → Piece T N L E → ℕ
walkers_of (Ready v) = 0
walkers_of (Under w) = 1
walkers_of (Refused w e) = 1

-- ---- the pieces of a cell

-- the first pieces of a row up to the last of so many walkers, at most so many in all; the walkers without refusals
abbrev pub first_batch : {T N L E : Type 0} → ℕ → ℕ → List (Piece T N L E) → List (Piece T N L E)
first_batch zero m ps = []
first_batch (suc c) zero ps = []
first_batch (suc c) (suc m) [] = []
first_batch (suc c) (suc m) (p ∷ ps) = renewed p ∷ first_batch c (suc m - walkers_of p) ps

-- the pieces behind these
abbrev pub behind_batch : {T N L E : Type 0} → ℕ → ℕ → List (Piece T N L E) → List (Piece T N L E)
behind_batch zero m ps = ps
behind_batch (suc c) zero ps = ps
behind_batch (suc c) (suc m) [] = []
behind_batch (suc c) (suc m) (p ∷ ps) = behind_batch c (suc m - walkers_of p) ps

-- ---- how long a row may be

-- how many pieces a row has at most
abbrev pub most_pieces : ℕ → ℕ
most_pieces workers = (workers + 1) * 128

-- how many batches a wave has: one for each worker, no more than leave each four cells, and no more than there are walkers
abbrev pub due_at : {T N L E : Type 0} → ℕ → List (Piece T N L E) → ℕ
due_at workers ps = min (min workers ((most_pieces workers - length ps) / 4)) (length ps - count_by is_ready ps)

-- a batch may add so many pieces: 56, and no more than its share of the cells
abbrev pub room_at : {T N L E : Type 0} → ℕ → List (Piece T N L E) → ℕ
room_at workers ps = min 56 ((most_pieces workers - length ps) / due_at workers ps)

-- how often a batch expands at most: eight times, and sixteen times for each batch before, of which 16 count at most; so the first batches are short, and
-- there is soon work for all
abbrev pub times_at : ℕ → ℕ
times_at batches = min batches 16 * 16 + 8

-- at its last value a batch's number stays
abbrev pub batch_number : ℕ → ℕ
batch_number n = min n (2 ^ 64 - 1)

-- ---- refusals; `refuses w e` says that the walker at w may be refused so

-- each refusal in a row is one that its walker may meet
abbrev pub AreRefusals : {T N L E : Type 0} → (Standing T N L → E → Type 0) → List (Piece T N L E) → Type 0
AreRefusals refuses [] = Unit {0}
AreRefusals refuses (Ready v ∷ ps) = AreRefusals refuses ps
AreRefusals refuses (Under w ∷ ps) = AreRefusals refuses ps
AreRefusals refuses (Refused w e ∷ ps) = refuses w e × AreRefusals refuses ps

-- a walker is in front, and may be refused so
abbrev pub IsFrontRefused : {T N L E : Type 0} → (Standing T N L → E → Type 0) → List (Piece T N L E) → E → Type 0
IsFrontRefused refuses [] e = ⊥
IsFrontRefused refuses (Ready v ∷ ps) e = ⊥
IsFrontRefused refuses (Under w ∷ ps) e = refuses w e
IsFrontRefused refuses (Refused w f ∷ ps) e = refuses w e

-- from 1 to 64 workers, a row that isn't too long, and no refusal that isn't its walker's
pub record IsHeld {T N L E : Type 0} (refuses : Standing T N L → E → Type 0) (workers : ℕ) (pieces : List (Piece T N L E)) : Type 0 where
  pub few : length pieces ≤ (workers + 1) * 128
  pub some : 1 ≤ workers
  pub most : workers ≤ 64
  pub refused : AreRefusals refuses pieces
