-- What a wave and a call do to a row.
-- lt orders labels, `up t` is the parent relation of the tree t, and `refuses w e` says that the walker at w may be refused so.
-- Laws: proofs/WaveLaws.antt.
use Rattle.std.specs.Prelude.{◌≡◌, ℕ, zero, suc, ◌+◌, ◌-◌, ◌*◌, ◌<◌, min, length, replicate, List, [], ◌∷◌, ◌++◌, ◌⊎◌, Option, Some, None, Bool, true, false}
use Rattle.std.specs.declared.result.Result.{Result}
use Rattle.std.specs.declared.result.Result.TheVariants.{Ok, Err}
use Rattle.gf_reverse_search.specs.Standing.{Standing}
use Rattle.gf_waves.specs.Frontier.{Frontier, due_at, room_at, times_at, batch_number, first_batch, behind_batch}
use Rattle.gf_reverse_search.specs.Walk.{Advances, IsOver}
use Rattle.gf_reverse_search.specs.Listing.{IsFirstOf}
use Rattle.gf_reverse_search.specs.Pieces.{Expands, PiecesLeave}
use Rattle.gf_reverse_search.specs.declared.expand.Piece.{Piece}
use Rattle.gf_reverse_search.specs.declared.expand.Piece.TheVariants.{Ready, Under, Refused}

-- ---- a batch

-- a walker is expanded into its node, its next child's subtree and what follows; or it stays with the refusal that it was met by before anything
-- was listed
abbrev pub IsExpansion : {T N L E : Type 0} → (L → L → Type 0) → (T → N → L → N → Type 0) → (Standing T N L → E → Type 0) → Standing T N L →
    List (Piece T N L E) → Type 0
IsExpansion {E = E} lt up refuses w ps = Expands lt up refuses 1 w ps ⊎ ((e : E) × (ps ≡ Refused w e ∷ []) × refuses w e)

-- at most k times the first walker of a row is expanded in place, unless it stands refused, and as long as there is room for two pieces more, of n
-- in all; j expansions and room for i are left, and no expansion where the first walker stands refused
abbrev pub ExpandsOn : {T N L E : Type 0} → (L → L → Type 0) → (T → N → L → N → Type 0) → (Standing T N L → E → Type 0) → ℕ → ℕ → List (Piece T N L E) → ℕ → ℕ →
    List (Piece T N L E) → Type 0
ExpandsOn lt up refuses zero n olds j i news = (news ≡ olds) × (j ≡ 0) × (i ≡ n)
ExpandsOn lt up refuses (suc k) zero olds j i news = (news ≡ olds) × (j ≡ suc k) × (i ≡ 0)
ExpandsOn lt up refuses (suc k) (suc zero) olds j i news = (news ≡ olds) × (j ≡ suc k) × (i ≡ 1)
ExpandsOn lt up refuses (suc k) (suc (suc n)) [] j i news = (news ≡ []) × (j ≡ suc k) × (i ≡ suc (suc n))
ExpandsOn {T} {N} {L} {E} lt up refuses (suc k) (suc (suc n)) (Ready v ∷ ps) j i news =
    (rest : List (Piece T N L E)) × (news ≡ Ready v ∷ rest) × ExpandsOn lt up refuses (suc k) (suc (suc n)) ps j i rest
ExpandsOn {T} {N} {L} {E} lt up refuses (suc k) (suc (suc n)) (Under w ∷ ps) j i news =
    (front : List (Piece T N L E)) × IsExpansion lt up refuses w front × ExpandsOn lt up refuses k (n + 3 - length front) (front ++ ps) j i news
ExpandsOn lt up refuses (suc k) (suc (suc n)) (Refused w e ∷ ps) j i news = (news ≡ Refused w e ∷ ps) × (j ≡ 0) × (i ≡ suc (suc n))

-- ---- a wave

-- so many cells, each with the next walker of the row and the nodes before it, at most eight pieces, are dealt out to batches in turn: the batch whose
-- turn it is goes on there with the expansions and the room that it has left, for 56 pieces at most (`batches`, the next one in front). The
-- other pieces stay
abbrev pub IsWaved : {T N L E : Type 0} → (L → L → Type 0) → (T → N → L → N → Type 0) → (Standing T N L → E → Type 0) → ℕ → List (ℕ × ℕ) →
    List (Piece T N L E) → List (Piece T N L E) → Type 0
IsWaved lt up refuses zero batches olds news = news ≡ olds
IsWaved lt up refuses (suc m) [] olds news = ⊥
IsWaved {T} {N} {L} {E} lt up refuses (suc m) (b ∷ batches) olds news =
    (front : List (Piece T N L E)) × (rest : List (Piece T N L E)) × (j : ℕ) × (i : ℕ) × (news ≡ front ++ rest) × ExpandsOn lt up refuses b.0 b.1
    (first_batch 8 1 olds) j i front × IsWaved lt up refuses m (batches ++ (j, min i 56) ∷ []) (behind_batch 8 1 olds) rest

-- a node is ready in front, or nothing is left
abbrev pub is_served : {T N L E : Type 0} → List (Piece T N L E) → Bool
is_served [] = true
is_served (Ready v ∷ ps) = true
is_served (Under w ∷ ps) = false
is_served (Refused w e ∷ ps) = false

-- ---- an answer

-- the walker in front gives a node; or it is refused
abbrev pub IsAsked : {T N L E : Type 0} → (L → L → Type 0) → (T → N → L → N → Type 0) → (Standing T N L → E → Type 0) → Standing T N L → List (Piece T N L E) →
    Result (Option N) E → List (Piece T N L E) → Type 0
IsAsked lt up refuses w ps (Ok None) news = ⊥
IsAsked {T} {N} {L} lt up refuses w ps (Ok (Some v)) news = (x : Standing T N L) × Advances lt up w x (Some v) × (x.tree ≡ w.tree) × (news ≡ Under x ∷ ps)
IsAsked lt up refuses w ps (Err e) news = refuses w e × (news ≡ Under w ∷ ps)

-- a ready node in front is given; a refusal in front is told, and its walker stays; a walker in front is asked, and goes away where it has nothing left
abbrev pub IsGiven : {T N L E : Type 0} → (L → L → Type 0) → (T → N → L → N → Type 0) → (Standing T N L → E → Type 0) → List (Piece T N L E) →
    Result (Option N) E → List (Piece T N L E) → Type 0
IsGiven lt up refuses [] answer news = (answer ≡ Ok None) × (news ≡ [])
IsGiven lt up refuses (Ready v ∷ ps) answer news = (answer ≡ Ok (Some v)) × (news ≡ ps)
IsGiven lt up refuses (Refused w e ∷ ps) answer news = (answer ≡ Err e) × (news ≡ Under w ∷ ps)
IsGiven lt up refuses (Under w ∷ ps) answer news = IsAsked lt up refuses w ps answer news ⊎ (IsOver lt up w × IsGiven lt up refuses ps answer news)

-- ---- a call

-- what is done before the answer: a wave, where no node is ready in front and there is room for one, and its batches are counted; and else nothing
abbrev pub IsReadied : {T N L E : Type 0} → (L → L → Type 0) → (T → N → L → N → Type 0) → (Standing T N L → E → Type 0) → ℕ → ℕ → List (Piece T N L E) → ℕ →
    List (Piece T N L E) → Type 0
IsReadied lt up refuses workers batches olds next news =
    let due = due_at workers olds in
    ((is_served olds ≡ false) × (0 < due) × (next ≡ batch_number (batches + due)) × IsWaved lt up refuses
    (due * 12) (replicate due (times_at batches, room_at workers olds)) olds news)
    ⊎ (((is_served olds ≡ true) ⊎ (due ≡ 0)) × (next ≡ batches) × (news ≡ olds))

-- what is left is worked off, and the answer is taken out of that; or there was no memory for a wave, and nothing is done
abbrev pub IsCall : {T N L E : Type 0} → (L → L → Type 0) → (T → N → L → N → Type 0) → (Standing T N L → E → Type 0) → (E → Type 0) → Frontier T N L E →
    Result (Option N) E → Frontier T N L E → Type 0
IsCall {T} {N} {L} {E} lt up refuses is_memory old answer new =
    ((worked : List (Piece T N L E)) × IsReadied lt up refuses old.workers old.batches old.pieces new.batches worked × IsGiven lt up refuses worked answer
    new.pieces)
    ⊎ ((e : E) × (answer ≡ Err e) × is_memory e × (is_served old.pieces ≡ false) × (0 < due_at old.workers old.pieces) × (new ≡ old))

-- what is left after an answer: the rest, or all where it was a refusal
abbrev pub IsAfter : {T N L E : Type 0} → (Standing T N L → List N → Type 0) → Result (Option N) E → List N → List (Piece T N L E) → Type 0
IsAfter left (Ok o) nodes news = IsFirstOf (PiecesLeave left news) nodes o
IsAfter left (Err e) nodes news = PiecesLeave left news nodes
