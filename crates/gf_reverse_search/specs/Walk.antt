-- What one step of a walker answers.
-- Laws: proofs/ClimbLaws.antt, proofs/SearchLaws.antt, proofs/RefusalLaws.antt.
use Rattle.std.specs.Prelude.{◌≡◌, ℕ, ◌<◌, ◌≤◌, List, [], ◌∷◌, ◌⊎◌, length, Option, Some, None, ◌↔◌}
use Rattle.gf_reverse_search.specs.declared.mark.Mark.{Mark}
use Rattle.gf_reverse_search.specs.declared.mark.Mark.TheVariants.{Listed}
use Rattle.gf_reverse_search.specs.declared.search.Turn.{Turn}
use Rattle.gf_reverse_search.specs.declared.search.Turn.TheVariants.{Child, Up, End}
use Rattle.gf_reverse_search.specs.Path.{Leads, IsPath, Precedes}
use Rattle.gf_reverse_search.specs.Left.{IsLeft, IsBelowMark, IsOpen}
use Rattle.gf_reverse_search.specs.Standing.{Standing, StandsBelow}

-- ---- the children of one node

-- no child is past the mark
abbrev pub HasNoChild : {N L : Type 0} → (L → L → Type 0) → (N → L → N → Type 0) → N → Mark L → Type 0
HasNoChild {N} {L} lt up u m = (b : L) (w : N) → up w b u → IsBelowMark lt m (b ∷ []) → ⊥

-- v is the child of u under the least label past the mark
pub record IsLeastChild {N L : Type 0} (lt : L → L → Type 0) (up : N → L → N → Type 0) (u : N) (m : Mark L) (v : N) : Type 0 where
  pub label : L
  pub child : up v label u
  pub past : IsBelowMark lt m (label ∷ [])
  pub least : (b : L) (w : N) → up w b u → IsBelowMark lt m (b ∷ []) → (label ≡ b) ⊎ lt label b

-- the least child past the mark, or that there is none
abbrev pub IsNextChild : {N L : Type 0} → (L → L → Type 0) → (N → L → N → Type 0) → N → Mark L → Option N → Type 0
IsNextChild lt up u m (Some v) = IsLeastChild lt up u m v
IsNextChild lt up u m None = HasNoChild lt up u m

-- one turn of the search for the next node: down to the next child; up, where there is none; or the end, at the top
abbrev pub IsTurn : {N L : Type 0} → (L → L → Type 0) → (N → L → N → Type 0) → N → Mark L → ℕ → Turn N L → Type 0
IsTurn lt up u m d (Child v) = IsLeastChild lt up u m v
IsTurn lt up u m d (Up c w) = HasNoChild lt up u m × up u c w × (0 < d)
IsTurn {N} {L} lt up u m d End = HasNoChild lt up u m × ((c : L) (w : N) → up u c w → 0 < d → ⊥)

-- ---- the search for the next node

-- where the search ends, what was left at r is the path found and what is left there once it is listed; or nothing was left
abbrev pub Finds : {N L : Type 0} → (L → L → Type 0) → (N → L → N → Type 0) → N → Mark L → List L → Option (N × ℕ) → Type 0
Finds {L = L} lt up top m r None = (q : List L) → IsPath up top q → IsOpen lt m r q → ⊥
Finds {L = L} lt up top m r (Some p) = (t : List L) × StandsBelow up top t p.0 p.1 × ((q : List L) → IsPath up top q →
    (IsOpen lt m r q ↔ ((t ≡ q) ⊎ IsOpen lt Listed t q)))

-- the same below whatever top the walker has
abbrev pub FindsNext : {N L : Type 0} → (L → L → Type 0) → (N → L → N → Type 0) → N → Mark L → ℕ → Option (N × ℕ) → Type 0
FindsNext {N} {L} lt up here m d o = (top : N) (r : List L) → StandsBelow up top r here d → Finds lt up top m r o

-- ---- a step of the walker

-- no path is left
abbrev pub IsEmpty : {N L : Type 0} → (L → L → Type 0) → (N → L → N → Type 0) → N → Mark L → List L → Type 0
IsEmpty {L = L} lt up top m r = (q : List L) → IsPath up top q → IsLeft lt m r q → ⊥

-- t is the first path of what is left at r, and all that comes after it is left
pub record IsFirst {N L : Type 0} (lt : L → L → Type 0) (up : N → L → N → Type 0) (top : N) (m : Mark L) (r t : List L) : Type 0 where
  pub at_first : IsLeft lt m r t
  pub at_later : (q : List L) → IsPath up top q → Precedes lt t q → IsLeft lt m r q
  pub only : (q : List L) → IsPath up top q → IsLeft lt m r q → (t ≡ q) ⊎ Precedes lt t q

-- the walker answers v, stands at it, and has listed it: its path is the first of those that were left
pub record IsNext {N L : Type 0} (lt : L → L → Type 0) (up : N → L → N → Type 0) (top : N) (old : Mark L) (r : List L) (v : N) (new : Mark L) (here : N)
    (depth : ℕ) : Type 0 where
  pub path : List L
  pub at : StandsBelow up top path here depth
  pub node : v ≡ here
  pub listed : new ≡ Listed
  pub first : IsFirst lt up top old r path

-- nothing was left, and nothing is
pub record IsDone {N L : Type 0} (lt : L → L → Type 0) (up : N → L → N → Type 0) (top : N) (old : Mark L) (r : List L) (new : Mark L) (here : N) (depth : ℕ) :
    Type 0 where
  pub path : List L
  pub at : StandsBelow up top path here depth
  pub none : IsEmpty lt up top old r
  pub stays : IsEmpty lt up top new path

-- the two together
abbrev pub Answers : {N L : Type 0} → (L → L → Type 0) → (N → L → N → Type 0) → N → Mark L → List L → Option N → Mark L → N → ℕ → Type 0
Answers lt up top old r (Some v) new here depth = IsNext lt up top old r v new here depth
Answers lt up top old r None new here depth = IsDone lt up top old r new here depth

-- below whatever top: from one standing to the next
abbrev pub Steps : {N L : Type 0} → (L → L → Type 0) → (N → L → N → Type 0) → Mark L → N → ℕ → Mark L → N → ℕ → Option N → Type 0
Steps {N} {L} lt up m0 here0 d0 m1 here1 d1 o = (top : N) (r : List L) → StandsBelow up top r here0 d0 → Answers lt up top m0 r o m1 here1 d1

-- a walker answers the first of what is left, and leaves the rest
abbrev pub Advances : {T N L : Type 0} → (L → L → Type 0) → (T → N → L → N → Type 0) → Standing T N L → Standing T N L → Option N → Type 0
Advances lt up old new o = Steps lt (up old.tree) old.mark old.here old.depth new.mark new.here new.depth o

-- nothing is left for a walker, below whatever top
abbrev pub IsOver : {T N L : Type 0} → (L → L → Type 0) → (T → N → L → N → Type 0) → Standing T N L → Type 0
IsOver {N = N} {L = L} lt up p = (top : N) (r : List L) → StandsBelow (up p.tree) top r p.here p.depth → IsEmpty lt (up p.tree) top p.mark r

-- ---- refusals

-- a call at a node was refused so, and the node is here or above, by no more steps than most
pub record IsRefused {N L E : Type 0} (up : N → L → N → Type 0) (refuses : N → E → Type 0) (here : N) (most : ℕ) (e : E) : Type 0 where
  pub node : N
  pub path : List L
  pub leads : Leads up node path here
  pub near : length path ≤ most
  pub refused : refuses node e

-- the same, however far above
abbrev pub IsRefusedAbove : {N L E : Type 0} → (N → L → N → Type 0) → (N → E → Type 0) → N → E → Type 0
IsRefusedAbove up refuses here e = (most : ℕ) × IsRefused up refuses here most e

-- a call was refused so at a node below another, or at that one
pub record IsRefusedBelow {N L E : Type 0} (up : N → L → N → Type 0) (refuses : N → E → Type 0) (top : N) (e : E) : Type 0 where
  pub node : N
  pub path : List L
  pub leads : Leads up top path node
  pub refused : refuses node e
