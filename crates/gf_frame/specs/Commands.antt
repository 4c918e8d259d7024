-- A command as one record: what it reads, how that is checked, its answer, why its work is refused, and how it goes on once its sources are
-- loaded.
use Rattle.std.specs.Prelude.{◌≡◌, ◌⊎◌, ℕ, List}
use Rattle.gf_text.specs.declared.error.TextError.{TextError}
use Rattle.gf_front.specs.declared.refusal.Refusal.{Refusal}
use Rattle.gf_front.specs.declared.refusal.Refusal.TheVariants as refusals
use Rattle.gf_front.specs.Kinds.{RefusalKind, kind_of_refusal, IsOutsideKind}
use Rattle.gf_items.specs.Checks.{Check, AllHold, FirstFails}
use Rattle.gf_items.specs.Refusals.{of_text, IsExactRefusal, IsOfTest}
use Rattle.gf_frame.specs.Seen.{InputSeen, OutputSeen}
use Rattle.gf_frame.specs.Loading.{Origin}
use Rattle.gf_frame.specs.Readings.{Reading}

-- how a command takes of the input and writes in turn: how it ends, and how it is cut off; what the input and the output show before and
-- after stands behind what is read
pub record Turns (A : Type 0) : Type 1 where
  pub IsEnded : A → InputSeen → InputSeen → OutputSeen → OutputSeen → Type 0
  pub IsCut : A → InputSeen → InputSeen → OutputSeen → OutputSeen → Refusal → Type 0

-- How it goes on once its sources are loaded: it writes its answer in one piece at its end; or it writes as it goes; or it goes on in turns.
-- As it goes: the whole text is all that is written where nothing stops it, of which a prefix stands where a write fails; of a list that goes
-- on past its limit it ends at the limit, with just as many items as the limit lets through. Then what may be written before the work is refused so,
-- and why it is refused before anything is written.
pub data Writing (A : Type 0) : Type 1 where
  at_end : Writing A
  as_it_goes : (A → List ℕ → Type 0) → (A → List ℕ → Refusal → Type 0) → (A → Refusal → Type 0) → Writing A
  in_turns : Turns A → Writing A

-- a command
pub record Command : Type 1 where
  pub Value : Type 0
  -- its sources, in the order in which they are loaded, all of them before the first is judged
  pub reads : List Origin
  -- what their texts say
  pub reading : Reading Value
  pub checks : Value → List Check
  -- the text that is written for what is read
  pub IsAnswer : Value → List ℕ → Type 0
  -- why the work on it is refused
  pub IsCause : Value → Refusal → Type 0
  -- no operation that the work on it may have is refused
  pub IsWithin : Value → Type 0
  pub writing : Writing Value

-- the whole text
abbrev pub IsWholeBy : {A : Type 0} → Writing A → (A → List ℕ → Type 0) → A → List ℕ → Type 0
IsWholeBy Writing.at_end IsAnswer a text = IsAnswer a text
IsWholeBy (Writing.as_it_goes whole begun early) IsAnswer a text = whole a text
IsWholeBy (Writing.in_turns turns) IsAnswer a text = ⊥

-- what may be written before a refusal
abbrev pub IsBegunBy : {A : Type 0} → Writing A → A → List ℕ → Refusal → Type 0
IsBegunBy Writing.at_end a text r = ⊥
IsBegunBy (Writing.as_it_goes whole begun early) a text r = begun a text r
IsBegunBy (Writing.in_turns turns) a text r = ⊥

-- why the work is refused before anything is written; a command that doesn't write as it goes has written nothing, whatever the cause is
abbrev pub IsCauseAtStart : {A : Type 0} → Writing A → (A → Refusal → Type 0) → A → Refusal → Type 0
IsCauseAtStart Writing.at_end IsCause a r = IsCause a r
IsCauseAtStart (Writing.as_it_goes whole begun early) IsCause a r = early a r
IsCauseAtStart (Writing.in_turns turns) IsCause a r = IsCause a r

-- it writes its answer in one piece at its end
abbrev pub WritesOnce : {A : Type 0} → Writing A → Type 0
WritesOnce Writing.at_end = Unit {0}
WritesOnce (Writing.as_it_goes whole begun early) = ⊥
WritesOnce (Writing.in_turns turns) = ⊥

-- it writes as it goes: a list that is cut at its limit does
abbrev pub GoesAlong : {A : Type 0} → Writing A → Type 0
GoesAlong Writing.at_end = ⊥
GoesAlong (Writing.as_it_goes whole begun early) = Unit {0}
GoesAlong (Writing.in_turns turns) = ⊥

-- ---- for what is read

-- it is of its form, and this is written for it
pub record IsAnswerFor (c : Command) (a : c.Value) (text : List ℕ) : Type 0 where
  pub formed : AllHold (c.checks a)
  pub is_answer : c.IsAnswer a text

-- nothing is written for it: it isn't of its form; or it is, and the work on it is refused; or there is no memory
pub data IsUnanswered (c : Command) (a : c.Value) (r : Refusal) : Type 0 where
  in_form : FirstFails (c.checks a) r → IsUnanswered c a r
  in_work : AllHold (c.checks a) → c.IsCause a r → IsUnanswered c a r
  no_memory : r ≡ refusals.Memory → IsUnanswered c a r

-- ---- from the texts on

-- what is written for the texts
pub record IsAnswered (c : Command) (texts : List (List ℕ)) (text : List ℕ) : Type 0 where
  pub value : c.Value
  pub read : c.reading.IsRead texts value
  pub answer : IsAnswerFor c value text

-- the whole text for them
pub record IsWholeFor (c : Command) (texts : List (List ℕ)) (text : List ℕ) : Type 0 where
  pub value : c.Value
  pub read : c.reading.IsRead texts value
  pub formed : AllHold (c.checks value)
  pub is_whole : IsWholeBy c.writing c.IsAnswer value text

-- this may be written before the work is refused so
pub record IsBegunFor (c : Command) (texts : List (List ℕ)) (text : List ℕ) (r : Refusal) : Type 0 where
  pub value : c.Value
  pub read : c.reading.IsRead texts value
  pub formed : AllHold (c.checks value)
  pub begun : IsBegunBy c.writing value text r

-- the texts are refused before any work: at the first place of them that offends, or by the first check that fails
pub data IsRefusedAtOnce (c : Command) (texts : List (List ℕ)) (r : Refusal) : Type 0 where
  in_text : (e : TextError) → c.reading.IsRefused texts e → r ≡ of_text e → IsExactRefusal r → IsRefusedAtOnce c texts r
  in_form : (a : c.Value) → c.reading.IsRead texts a → FirstFails (c.checks a) r → IsRefusedAtOnce c texts r

-- nothing is written for the texts: one of them is refused; or they are read, and nothing is written for what is read
pub data IsRefusedOn (c : Command) (texts : List (List ℕ)) (r : Refusal) : Type 0 where
  in_text : (e : TextError) → c.reading.IsRefused texts e → r ≡ of_text e → IsRefusedOn c texts r
  behind_text : (a : c.Value) → c.reading.IsRead texts a → IsUnanswered c a r → IsRefusedOn c texts r
  no_memory : r ≡ refusals.Memory → IsRefusedOn c texts r

-- the texts are refused before anything is written: one of them is; or they are read, and a check fails, or the work is refused before it writes; or memory
-- runs out
pub data IsRefusedAtStart (c : Command) (texts : List (List ℕ)) (r : Refusal) : Type 0 where
  in_text : (e : TextError) → c.reading.IsRefused texts e → r ≡ of_text e → IsRefusedAtStart c texts r
  in_form : (a : c.Value) → c.reading.IsRead texts a → FirstFails (c.checks a) r → IsRefusedAtStart c texts r
  in_work : (a : c.Value) → c.reading.IsRead texts a → AllHold (c.checks a) → IsCauseAtStart c.writing c.IsCause a r → IsRefusedAtStart c texts r
  no_memory : r ≡ refusals.Memory → IsRefusedAtStart c texts r

-- they are read, of their form, and the work on them stays within its limits
pub record IsInReach (c : Command) (texts : List (List ℕ)) : Type 0 where
  pub value : c.Value
  pub read : c.reading.IsRead texts value
  pub formed : AllHold (c.checks value)
  pub within : c.IsWithin value

-- a refusal that is told wherever its condition holds, unless numbers don't fit
abbrev pub IsFixed : Refusal → Type 0
IsFixed r = IsExactRefusal r ⊎ IsOfTest r

-- it isn't one of what is read: it is of the words, of the outside, or for want of memory
abbrev pub IsOfOutside : Refusal → Type 0
IsOfOutside r = IsOutsideKind (kind_of_refusal r)

-- a command that writes so may be refused so on what it reads: as work is, or by a form that is judged behind work; at the limit of a list
-- only one that writes as it goes
abbrev pub IsKindOfWriting : {A : Type 0} → Writing A → RefusalKind → Type 0
IsKindOfWriting writing RefusalKind.words = ⊥
IsKindOfWriting writing RefusalKind.outside = ⊥
IsKindOfWriting writing RefusalKind.limit = GoesAlong writing
IsKindOfWriting writing _ = Unit {0}

-- the kind of the refusal is such
abbrev pub IsOfWriting : {A : Type 0} → Writing A → Refusal → Type 0
IsOfWriting writing r = IsKindOfWriting writing (kind_of_refusal r)
