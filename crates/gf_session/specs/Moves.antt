-- What the calls over states answer, and what a turn does. A session is told by its state and its steps, the latest step last.
-- Laws: proofs/TurnLaws.antt.
use Rattle.std.specs.Prelude.{◌≡◌, ℕ, ◌-◌, ◌^◌, ◌≤◌, ◌<◌, Bool, true, false, List, [], ◌∷◌, ◌++◌, Option, Some, None}
use Rattle.std.specs.Io.KnownBytes.{Appends, Keeps}
use Rattle.gf_outside.specs.Faults.{Rose}
use Rattle.gf_outside.specs.Moved.{AppendsPrefix}
use Rattle.gf_session.specs.declared.choice.Choice.{Choice}
use Rattle.gf_session.specs.declared.session.SessionError.{SessionError}
use Rattle.gf_session.specs.declared.session.SessionError.TheVariants as errors
use Rattle.gf_session.specs.Choices.{narrowed}
use Rattle.gf_session.specs.Sessions.{Rules, Trail, IsLineTurn, IsNear, AreSteps}

-- ---- one move

-- the step and the state across; or this number and all greater ones lead nowhere
abbrev pub IsAcrossAt : {P S : Type 0} → Rules P → (P → S → P → Type 0) → (P → Type 0) → P → ℕ → Option (S × P) → Type 0
IsAcrossAt r joins is_state here n (Some across) = (n < 2 ^ 64 - 1) × r.IsAcross here n across.1 × joins here across.0 across.1 × is_state across.1
IsAcrossAt r joins is_state here n None = (m : ℕ) → n ≤ m → r.IsLacking here m

-- the session went on from here to there by the choice of this number
pub record IsGone {P S : Type 0} (r : Rules P) (joins : P → S → P → Type 0) (is_state : P → Type 0) (here : P) (steps : List S) (n : ℕ) (there : P)
    (more : List S) : Type 0 where
  pub fits : n < 2 ^ 64 - 1
  pub across : r.IsAcross here n there
  pub step : S
  pub joined : joins here step there
  pub pushed : more ≡ steps ++ step ∷ []
  pub state : is_state there

-- it went on; or it stays, and this number and all greater ones lead nowhere
abbrev pub IsGoing : {P S : Type 0} → Rules P → (P → S → P → Type 0) → (P → Type 0) → P → List S → ℕ → P → List S → Bool → Type 0
IsGoing r joins is_state here steps n there more true = IsGone r joins is_state here steps n there more
IsGoing r joins is_state here steps n there more false = (there ≡ here) × (more ≡ steps) × ((m : ℕ) → n ≤ m → r.IsLacking here m)

-- there is the state before on this trail
pub record IsStateBefore {P S : Type 0} (joins : P → S → P → Type 0) (s : Trail P) (there : P) (less : List S) : Type 0 where
  pub rest : List P
  pub was : s.before ≡ there ∷ rest
  pub are_steps : AreSteps joins less (record { here = there; before = rest })

-- the session went back, on each trail that ends here and has these steps
pub record IsBack {P S : Type 0} (joins : P → S → P → Type 0) (is_state : P → Type 0) (here : P) (steps : List S) (there : P) (less : List S) : Type 0 where
  pub state : is_state there
  pub before : (s : Trail P) → s.here ≡ here → AreSteps joins steps s → IsStateBefore joins s there less

-- it went back; or it stays, and there is no step
abbrev pub IsGoingBack : {P S : Type 0} → (P → S → P → Type 0) → (P → Type 0) → P → List S → P → List S → Bool → Type 0
IsGoingBack joins is_state here steps there less true = IsBack joins is_state here steps there less
IsGoingBack joins is_state here steps there less false = (there ≡ here) × (less ≡ steps) × (steps ≡ [])

-- a call at a state is refused, or there is no memory
abbrev pub IsMoveRefusal : {E : Type 0} → (E → Type 0) → SessionError E → Type 0
IsMoveRefusal refuses errors.Memory = Unit {0}
IsMoveRefusal refuses (errors.Refused e) = refuses e
IsMoveRefusal refuses _ = ⊥

-- the way back by the latest of these steps is refused, or there is no memory; there is a step
pub record IsBackRefusal {S E : Type 0} (steps : List S) (refuses : E → Type 0) (e : SessionError E) : Type 0 where
  pub some : steps ≡ [] → ⊥
  pub refused : IsMoveRefusal refuses e

-- some trail ends here and has these steps
pub record IsSomeTrail {P S : Type 0} (joins : P → S → P → Type 0) (here : P) (steps : List S) : Type 0 where
  pub s : Trail P
  pub is_here : s.here ≡ here
  pub are_steps : AreSteps joins steps s

-- ---- what is written

-- a write failed, and a prefix of the piece was written
abbrev pub IsOfferCause : {E : Type 0} → Option (List ℕ) → Option (List ℕ) → ℕ → ℕ → List ℕ → SessionError E → Type 0
IsOfferCause held holds written writes piece errors.WriteFault = Rose written writes × AppendsPrefix held holds piece
IsOfferCause held holds written writes piece _ = ⊥

-- a fault of the output is counted only where it is told; the faults before and after stand first
abbrev pub IsWriteCalm : {E : Type 0} → ℕ → ℕ → SessionError E → Type 0
IsWriteCalm written writes errors.WriteFault = Unit {0}
IsWriteCalm written writes _ = writes ≡ written

-- the output gained what is told of a state behind so many
pub record IsPrompted {P : Type 0} (r : Rules P) (here : P) (behind : ℕ) (held holds : Option (List ℕ)) : Type 0 where
  pub text : List ℕ
  pub told : r.IsTold here behind text
  pub gained : Appends held holds text

-- a prefix of that was written, since a write failed; or nothing, and the call at the state is refused
abbrev pub IsPromptCause : {P E : Type 0} → Rules P → (P → E → Type 0) → P → ℕ → Option (List ℕ) → Option (List ℕ) → ℕ → ℕ → SessionError E → Type 0
IsPromptCause r refuses here behind held holds written writes errors.WriteFault =
    Rose written writes × ((text : List ℕ) × r.IsTold here behind text × AppendsPrefix held holds text)
IsPromptCause r refuses here behind held holds written writes (errors.Refused e) = Keeps held holds × refuses here e
IsPromptCause r refuses here behind held holds written writes _ = ⊥

-- ---- turns

-- the trail ends here and has these steps, and the line asks for this, of which the program keeps a number of 64 bits
pub record IsSessionAt {P S : Type 0} (joins : P → S → P → Type 0) (here : P) (steps : List S) (choice : Choice) (s : Trail P) (asked : Choice) : Type 0 where
  pub is_here : s.here ≡ here
  pub are_steps : AreSteps joins steps s
  pub is_choice : choice ≡ narrowed asked

-- the line leads to another trail, which ends here and has these steps, and the output gained its answer
pub record IsTurnTaken {P S : Type 0} (r : Rules P) (joins : P → S → P → Type 0) (s : Trail P) (asked : Choice) (here : P) (steps : List S)
    (held holds : Option (List ℕ)) : Type 0 where
  pub t : Trail P
  pub is_here : t.here ≡ here
  pub are_steps : AreSteps joins steps t
  pub piece : List ℕ
  pub turn : IsLineTurn r s asked t piece
  pub gained : Appends held holds piece

-- a prefix of its answer was written
pub record IsTurnUnwritten {P : Type 0} (r : Rules P) (s : Trail P) (asked : Choice) (held holds : Option (List ℕ)) : Type 0 where
  pub t : Trail P
  pub piece : List ℕ
  pub turn : IsLineTurn r s asked t piece
  pub gained : AppendsPrefix held holds piece

-- nothing was written: the line is refused at a state that it looks at
pub record IsTurnRefused {P E : Type 0} (r : Rules P) (refuses : P → E → Type 0) (s : Trail P) (asked : Choice) (held holds : Option (List ℕ)) (e : E) :
    Type 0 where
  pub kept : Keeps held holds
  pub state : P
  pub near : IsNear r s asked state
  pub refused : refuses state e

-- why a line isn't answered; the faults of the output before and after stand last
abbrev pub IsTurnCause : {P S E : Type 0} → Rules P → (P → S → P → Type 0) → (P → E → Type 0) → P → List S → Choice → Option (List ℕ) → Option (List ℕ) → ℕ →
    ℕ → SessionError E → Type 0
IsTurnCause r joins refuses here steps choice held holds written writes errors.ReadFault = ⊥
IsTurnCause r joins refuses here steps choice held holds written writes errors.InputTooLong = ⊥
IsTurnCause {P} r joins refuses here steps choice held holds written writes errors.WriteFault =
    Rose written writes × ((s : Trail P) (asked : Choice) → IsSessionAt joins here steps choice s asked → IsTurnUnwritten r s asked held holds)
IsTurnCause r joins refuses here steps choice held holds written writes errors.Memory = Keeps held holds
IsTurnCause {P} r joins refuses here steps choice held holds written writes (errors.Refused e) =
    (s : Trail P) (asked : Choice) → IsSessionAt joins here steps choice s asked → IsTurnRefused r refuses s asked held holds e
