-- What a run of a command does: one case for all commands. What the outside shows before and after, p and q of the input and the files, and o
-- and s of the output, stands in this order.
use Rattle.std.specs.Prelude.{◌≡◌, ◌⊎◌, ℕ, ◌≤◌, List, length}
use Rattle.std.specs.Io.KnownBytes.{Appends, Keeps}
use Rattle.gf_outside.specs.Faults.{Rose}
use Rattle.gf_outside.specs.Moved.{AppendsPrefix}
use Rattle.gf_front.specs.declared.refusal.Refusal.{Refusal}
use Rattle.gf_front.specs.declared.refusal.Refusal.TheVariants as refusals
use Rattle.gf_items.specs.Checks.{AllHold}
use Rattle.gf_frame.specs.Seen.{Seen, OutputSeen}
use Rattle.gf_frame.specs.Loading.{Origin, AreLoaded, AreUnloaded, IsKnown, AreKnown, AreShort}
use Rattle.gf_frame.specs.Commands.{Writing, Command, IsAnswered, IsWholeFor, IsBegunFor, IsRefusedOn, IsRefusedAtStart}

-- ---- what is done with the texts, once they are loaded

-- the command takes of the input in turns
abbrev pub TakesTurns : {A : Type 0} → Writing A → Type 0
TakesTurns Writing.at_end = ⊥
TakesTurns (Writing.as_it_goes whole begun early) = ⊥
TakesTurns (Writing.in_turns turns) = Unit {0}

-- the answer to the texts is written, and the command takes no turns
pub record IsDoneOn (c : Command) (texts : List (List ℕ)) (o s : OutputSeen) : Type 0 where
  pub text : List ℕ
  pub answered : IsAnswered c texts text
  pub gained : Appends o.held s.held text
  pub calm : s.faults ≡ o.faults
  pub alone : TakesTurns c.writing → ⊥

-- what a refusal leaves in the output: nothing if it comes before anything is written; otherwise, of a command that writes as it goes, the
-- beginning of its text, and at the limit of a list always that
abbrev pub IsLeftInOutput : (c : Command) → List (List ℕ) → OutputSeen → OutputSeen → Refusal → Type 0
IsLeftInOutput c texts o s (refusals.ListLimit most) = (text : List ℕ) × IsBegunFor c texts text (refusals.ListLimit most) × Appends o.held s.held text
IsLeftInOutput c texts o s r =
    (IsRefusedAtStart c texts r × Keeps o.held s.held) ⊎ ((text : List ℕ) × IsBegunFor c texts text r × Appends o.held s.held text)

-- the texts are refused, and this leaves what it should; or the whole text is known, and a write of it fails
pub data IsStoppedOn (c : Command) (texts : List (List ℕ)) (o s : OutputSeen) (r : Refusal) : Type 0 where
  in_work : IsRefusedOn c texts r → IsLeftInOutput c texts o s r → s.faults ≡ o.faults → IsStoppedOn c texts o s r
  in_writing : (text : List ℕ) → IsWholeFor c texts text → r ≡ refusals.WriteFault → Rose o.faults s.faults → AppendsPrefix o.held s.held text →
      IsStoppedOn c texts o s r

-- ---- done

-- the answer is written, and no more is read; or the turns ended
abbrev pub IsCarriedOut : (c : Command) → Writing c.Value → List (List ℕ) → Seen → Seen → OutputSeen → OutputSeen → Type 0
IsCarriedOut c Writing.at_end texts m q o s = (q ≡ m) × ((text : List ℕ) × IsAnswered c texts text × Appends o.held s.held text)
IsCarriedOut c (Writing.as_it_goes whole begun early) texts m q o s = (q ≡ m) × ((text : List ℕ) × IsAnswered c texts text × Appends o.held s.held text)
IsCarriedOut c (Writing.in_turns turns) texts m q o s =
    (q.files ≡ m.files) × ((a : c.Value) × c.reading.IsRead texts a × AllHold (c.checks a) × turns.IsEnded a m.input q.input o s)

-- the sources were loaded, and all was done with them
pub record IsDoneBy (c : Command) (p q : Seen) (o s : OutputSeen) : Type 0 where
  pub texts : List (List ℕ)
  pub then : Seen
  pub loaded : AreLoaded c.reads p then texts
  pub gone : IsCarriedOut c c.writing texts then q o s
  pub calm : s.faults ≡ o.faults

-- ---- refused

-- the turns are cut off
abbrev pub AreCut : (c : Command) → Writing c.Value → List (List ℕ) → Seen → Seen → OutputSeen → OutputSeen → Refusal → Type 0
AreCut c Writing.at_end texts m q o s r = ⊥
AreCut c (Writing.as_it_goes whole begun early) texts m q o s r = ⊥
AreCut c (Writing.in_turns turns) texts m q o s r =
    (q.files ≡ m.files) × ((a : c.Value) × c.reading.IsRead texts a × AllHold (c.checks a) × turns.IsCut a m.input q.input o s r)

-- A source isn't loaded; or all are, and they are refused, or a write fails, or the turns are cut off.
pub data IsStoppedBy (c : Command) (p q : Seen) (o s : OutputSeen) (r : Refusal) : Type 0 where
  in_loading : AreUnloaded c.reads p q r → Keeps o.held s.held → s.faults ≡ o.faults → IsStoppedBy c p q o s r
  in_work : (texts : List (List ℕ)) → AreLoaded c.reads p q texts → IsRefusedOn c texts r → IsLeftInOutput c texts o s r → s.faults ≡ o.faults →
      IsStoppedBy c p q o s r
  in_writing : (texts : List (List ℕ)) (text : List ℕ) → AreLoaded c.reads p q texts → IsWholeFor c texts text → r ≡ refusals.WriteFault →
      Rose o.faults s.faults → AppendsPrefix o.held s.held text → IsStoppedBy c p q o s r
  in_turns : (texts : List (List ℕ)) (m : Seen) → AreLoaded c.reads p m texts → AreCut c c.writing texts m q o s r → IsStoppedBy c p q o s r

-- ---- what is given

-- the bytes of its sources are known, none of them too long, and none of their faults is counted from before to now
pub record AreGivenTexts (c : Command) (p q : Seen) (texts : List (List ℕ)) : Type 0 where
  pub known : AreKnown c.reads p q texts
  pub short : AreShort texts

-- ---- what is answered of a refusal

-- the sources were loaded, and the command is refused so on them; or in its turns
pub data IsJobRefused (c : Command) (p q : Seen) (o s : OutputSeen) (r : Refusal) : Type 0 where
  on_texts : (texts : List (List ℕ)) → AreLoaded c.reads p q texts → IsRefusedOn c texts r → IsJobRefused c p q o s r
  in_turns : (texts : List (List ℕ)) (m : Seen) → AreLoaded c.reads p m texts → AreCut c c.writing texts m q o s r → IsJobRefused c p q o s r

-- the input is known and not too long, where a command takes of it in turns
abbrev pub IsHeard : {A : Type 0} → Writing A → Seen → Seen → Type 0
IsHeard Writing.at_end p q = Unit {0}
IsHeard (Writing.as_it_goes whole begun early) p q = Unit {0}
IsHeard (Writing.in_turns turns) p q = (source : List ℕ) × IsKnown Origin.the_input p q source × (length source ≤ 67108864)

-- what is in the output if no write failed: nothing, if a source isn't loaded, or if all are and they are refused before anything is written; otherwise the
-- beginning of a text that is written as it goes, or the turns until then
pub data LeavesInOutput (c : Command) (p q : Seen) (o s : OutputSeen) (r : Refusal) : Type 0 where
  unloaded : AreUnloaded c.reads p q r → Keeps o.held s.held → LeavesInOutput c p q o s r
  at_start : (texts : List (List ℕ)) → AreLoaded c.reads p q texts → IsRefusedAtStart c texts r → Keeps o.held s.held → LeavesInOutput c p q o s r
  beginning : (texts : List (List ℕ)) (text : List ℕ) → AreLoaded c.reads p q texts → IsBegunFor c texts text r → Appends o.held s.held text →
      LeavesInOutput c p q o s r
  turns : (texts : List (List ℕ)) (m : Seen) → AreLoaded c.reads p m texts → AreCut c c.writing texts m q o s r → LeavesInOutput c p q o s r
