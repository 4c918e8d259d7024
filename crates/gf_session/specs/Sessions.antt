-- Sessions: a sequence of states that keeps where it has been, line by line.
-- A trail is where the session is, and the states before it, the latest first; it is never empty. A choice goes on to another state, u goes
-- back to the state before. The transcript is the text of the answers in turn.
-- Laws: proofs/SessionLaws.antt.
use Rattle.std.specs.Prelude.{◌≡◌, ◌⊎◌, ℕ, Bool, true, List, [], ◌∷◌, ◌++◌, length, map, flat_map, reverse, All, Option, codes}
use Rattle.std.specs.Io.KnownBytes.{Appends, IsAtEnd}
use Rattle.gf_outside.specs.Moved.{Took, AppendsPrefix}
use Rattle.gf_session.specs.declared.choice.Choice.{Choice}
use Rattle.gf_session.specs.declared.choice.Choice.TheVariants as choices
use Rattle.gf_session.specs.Choices.{choice_of}
use Rattle.gf_session.specs.Lines.{HasNoFeed, IsBegun, ended, as_taken}

-- ---- states

-- where the choice of a number leads, which numbers lead nowhere, and what is told of a state behind so many states
pub record Rules (P : Type 0) : Type 1 where
  pub IsAcross : P → ℕ → P → Type 0
  pub IsLacking : P → ℕ → Type 0
  pub IsTold : P → ℕ → List ℕ → Type 0

-- where a session is, and where it was, the latest state first
pub record Trail (P : Type 0) : Type 0 where
  pub here : P
  pub before : List P

-- ---- answers

-- to a number that leads nowhere
abbrev pub no_such_facet : List ℕ
no_such_facet = codes "no such facet\n"

-- to `u` where no step was taken
abbrev pub nothing_to_undo : List ℕ
nothing_to_undo = codes "nothing to undo\n"

-- to any other line
abbrev pub not_understood : List ℕ
not_understood = codes "not understood\n"

-- ---- turns

-- the session goes on to where the choice of this number leads, and what is told of the new state is the answer
pub record IsCrossedTo {P : Type 0} (r : Rules P) (s : Trail P) (n : ℕ) (t : Trail P) (text : List ℕ) : Type 0 where
  pub before : t.before ≡ s.here ∷ s.before
  pub across : r.IsAcross s.here n t.here
  pub told : r.IsTold t.here (length t.before) text

-- the session stays, and this is the answer
pub record IsReply {P : Type 0} (s t : Trail P) (answer text : List ℕ) : Type 0 where
  pub stays : t ≡ s
  pub is_answer : text ≡ answer

-- the session goes back to the state before
abbrev pub IsUndone : {P : Type 0} → Rules P → P → List P → Trail P → List ℕ → Type 0
IsUndone r here [] t text = IsReply (record { here = here; before = [] }) t nothing_to_undo text
IsUndone r here (p ∷ ps) t text = (t ≡ record { here = p; before = ps }) × r.IsTold p (length ps) text

-- from one trail a line leads to another, and this is its answer; the line that ends the session leads nowhere
abbrev pub IsLineTurn : {P : Type 0} → Rules P → Trail P → Choice → Trail P → List ℕ → Type 0
IsLineTurn r s choices.Blank t text = IsReply s t [] text
IsLineTurn r s (choices.Across n) t text = IsCrossedTo r s n t text ⊎ (r.IsLacking s.here n × IsReply s t no_such_facet text)
IsLineTurn r s choices.Undo t text = IsUndone r s.here s.before t text
IsLineTurn r s choices.Quit t text = ⊥
IsLineTurn r s choices.Unknown t text = IsReply s t not_understood text

-- so do several lines, and their answers in turn are this text
abbrev pub AreTurns : {P : Type 0} → Rules P → Trail P → List Choice → Trail P → List ℕ → Type 0
AreTurns r s [] t text = (t ≡ s) × (text ≡ [])
AreTurns {P} r s (c ∷ cs) t text = (u : Trail P) × (piece : List ℕ) × (rest : List ℕ) × IsLineTurn r s c u piece × AreTurns r u cs t rest ×
    (text ≡ piece ++ rest)

-- ---- sessions
-- What is left of the source before and after, how many bytes it gave before and after, and what the sink holds before and after stand in
-- this order.

-- these lines were taken and then these bytes, and the output gained the answers of the lines
pub record IsTalk {P : Type 0} (r : Rules P) (s t : Trail P) (left leaves : Option (List ℕ)) (given gives : ℕ) (held holds : Option (List ℕ))
    (lines : List (List ℕ)) (rest : List ℕ) : Type 0 where
  pub pure : All HasNoFeed lines
  pub took : Took left leaves given gives (flat_map ended lines ++ rest)
  pub text : List ℕ
  pub turns : AreTurns r s (map choice_of lines) t text
  pub gained : Appends held holds text

-- the last line was answered too, and nothing is left of the input
pub record IsEndedByInput {P : Type 0} (r : Rules P) (s : Trail P) (left leaves : Option (List ℕ)) (given gives : ℕ) (held holds : Option (List ℕ)) :
    Type 0 where
  pub lines : List (List ℕ)
  pub last : List ℕ
  pub t : Trail P
  pub pure : All HasNoFeed (lines ++ last ∷ [])
  pub took : Took left leaves given gives (flat_map ended lines ++ last)
  pub end : IsAtEnd leaves
  pub text : List ℕ
  pub turns : AreTurns r s (map choice_of (lines ++ last ∷ [])) t text
  pub gained : Appends held holds text

-- the line behind those that were answered is q; what is behind its line feed isn't taken
pub record IsEndedByLine {P : Type 0} (r : Rules P) (s : Trail P) (left leaves : Option (List ℕ)) (given gives : ℕ) (held holds : Option (List ℕ)) :
    Type 0 where
  pub lines : List (List ℕ)
  pub last : List ℕ
  pub is_last : Bool
  pub t : Trail P
  pub pure : HasNoFeed last
  pub quits : choice_of last ≡ choices.Quit
  pub ends : is_last ≡ true → IsAtEnd leaves
  pub talk : IsTalk r s t left leaves given gives held holds lines (as_taken is_last last)

-- how a session ends that isn't refused
abbrev pub IsEnded : {P : Type 0} → Rules P → Trail P → Option (List ℕ) → Option (List ℕ) → ℕ → ℕ → Option (List ℕ) → Option (List ℕ) → Type 0
IsEnded r s left leaves given gives held holds = IsEndedByInput r s left leaves given gives held holds ⊎ IsEndedByLine r s left leaves given gives held holds

-- a session that is cut off in a line, of which so many bytes were taken in all; each line before was answered
pub record IsBrokenOff {P : Type 0} (r : Rules P) (s : Trail P) (left leaves : Option (List ℕ)) (given gives : ℕ) (held holds : Option (List ℕ)) (count : ℕ) :
    Type 0 where
  pub lines : List (List ℕ)
  pub rest : List ℕ
  pub t : Trail P
  pub begun : IsBegun rest
  pub talk : IsTalk r s t left leaves given gives held holds lines rest
  pub exactly : length (flat_map ended lines ++ rest) ≡ count

-- a session of which an answer couldn't be written: the output gained a prefix of the answers of all lines that were taken
pub record IsReplyUnwritten {P : Type 0} (r : Rules P) (s : Trail P) (left leaves : Option (List ℕ)) (given gives : ℕ) (held holds : Option (List ℕ)) :
    Type 0 where
  pub lines : List (List ℕ)
  pub last : List ℕ
  pub is_last : Bool
  pub t : Trail P
  pub pure : All HasNoFeed (lines ++ last ∷ [])
  pub ends : is_last ≡ true → IsAtEnd leaves
  pub took : Took left leaves given gives (flat_map ended lines ++ as_taken is_last last)
  pub text : List ℕ
  pub turns : AreTurns r s (map choice_of (lines ++ last ∷ [])) t text
  pub gained : AppendsPrefix held holds text

-- an undo looks at where the session is and at the state before, if there is one
abbrev pub IsNearUndo : {P : Type 0} → P → List P → P → Type 0
IsNearUndo here [] p = ⊥
IsNearUndo here (q ∷ qs) p = (p ≡ here) ⊎ (p ≡ q)

-- a state at which a line looks that asks for this: a number, at where the session is and at the state across by that number alone; any line but a number or an
-- undo looks at none
abbrev pub IsNear : {P : Type 0} → Rules P → Trail P → Choice → P → Type 0
IsNear r s (choices.Across n) p = (p ≡ s.here) ⊎ r.IsAcross s.here n p
IsNear r s choices.Undo p = IsNearUndo s.here s.before p
IsNear r s _ p = ⊥

-- a session that is refused at a state that the last line looks at; each line before it was answered
pub record IsStuck {P E : Type 0} (r : Rules P) (refuses : P → E → Type 0) (s : Trail P) (left leaves : Option (List ℕ)) (given gives : ℕ)
    (held holds : Option (List ℕ)) (e : E) : Type 0 where
  pub lines : List (List ℕ)
  pub last : List ℕ
  pub is_last : Bool
  pub t : Trail P
  pub pure : HasNoFeed last
  pub ends : is_last ≡ true → IsAtEnd leaves
  pub talk : IsTalk r s t left leaves given gives held holds lines (as_taken is_last last)
  pub state : P
  pub near : IsNear r t (choice_of last) state
  pub refused : refuses state e

-- ---- what is kept of a trail

-- each step leads from one state of the trail to the one after it; the latest step first
abbrev pub Joins : {P S : Type 0} → (P → S → P → Type 0) → List S → P → List P → Type 0
Joins joins [] here before = before ≡ []
Joins joins (x ∷ xs) here [] = ⊥
Joins joins (x ∷ xs) here (p ∷ ps) = joins p x here × Joins joins xs p ps

-- these steps, the latest last, are those of the trail
abbrev pub AreSteps : {P S : Type 0} → (P → S → P → Type 0) → List S → Trail P → Type 0
AreSteps joins xs t = Joins joins (reverse xs) t.here t.before
