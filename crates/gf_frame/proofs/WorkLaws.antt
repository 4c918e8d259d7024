-- What is done with texts that are loaded is what the run of the command does.
-- To cite: done_by, stopped_by, nothing_left, nothing_but_limit, text_stopped, answer_whole, once_along, once_alone, not_cut,
-- loaded_length, once_done, once_cut, once_refused. The rest are steps.
use Rattle.std.specs.Prelude.{◌≡◌, ℕ, List, [], ◌∷◌, length}
use Rattle.std.specs.Io.KnownBytes.{Appends}
use Rattle.std.proofs.Common.{arith, refl, inl}
use Rattle.std.proofs.KnownBytes.{Keeps-refl}
use Rattle.gf_text.specs.declared.error.TextError.{TextError}
use Rattle.gf_text.specs.declared.error.TextError.TheVariants as errors
use Rattle.gf_outside.specs.Faults.{Rose}
use Rattle.gf_outside.specs.Moved.{AppendsPrefix}
use Rattle.gf_front.specs.declared.refusal.Refusal.{Refusal}
use Rattle.gf_front.specs.declared.refusal.Refusal.TheVariants as refusals
use Rattle.gf_items.specs.Refusals.{of_text}
use Rattle.gf_frame.specs.Seen.{Seen, OutputSeen}
use Rattle.gf_frame.specs.Loading.{Origin, AreLoaded}
use Rattle.gf_frame.specs.Commands.{Writing, Command, WritesOnce, GoesAlong, IsWholeBy, IsOfWriting, IsAnswered, IsWholeFor, IsUnanswered, IsRefusedOn}
use Rattle.gf_frame.specs.Commands.{IsCauseAtStart, IsRefusedAtStart}
use Rattle.gf_frame.specs.Runs.{TakesTurns, AreCut, IsCarriedOut, IsDoneBy, IsStoppedBy, IsLeftInOutput, IsDoneOn, IsStoppedOn}
use Rattle.gf_frame.proofs.CommandLaws.{IsLawful, refused_kind}

carried_out : (c : Command) (writing : Writing c.Value) (texts : List (List ℕ)) (m : Seen) (o s : OutputSeen) (text : List ℕ) → (TakesTurns writing → ⊥) →
    IsAnswered c texts text → Appends o.held s.held text → IsCarriedOut c writing texts m m o s
carried_out c Writing.at_end texts m o s text n a g = (refl, (text, a, g))
carried_out c (Writing.as_it_goes whole begun early) texts m o s text n a g = (refl, (text, a, g))
carried_out c (Writing.in_turns turns) texts m o s text n a g = absurd (n tt)

module _ (c : Command) (p q : Seen) (texts : List (List ℕ)) (o s : OutputSeen) (loaded : AreLoaded c.reads p q texts) where
  pub done_by : IsDoneOn c texts o s → IsDoneBy c p q o s
  done_by d = record { texts = texts; then = q; loaded = loaded; gone = carried_out c c.writing texts q o s d.text d.alone d.answered d.gained; calm = d.calm }

  pub stopped_by : (r : Refusal) → IsStoppedOn c texts o s r → IsStoppedBy c p q o s r
  stopped_by r (IsStoppedOn.in_work h left e) = IsStoppedBy.in_work texts loaded h left e
  stopped_by r (IsStoppedOn.in_writing text w e rose part) = IsStoppedBy.in_writing texts text loaded w e rose part

-- a command that doesn't write as it goes is refused before anything is written
cause_at_start : {A : Type 0} (writing : Writing A) (IsCause : A → Refusal → Type 0) (a : A) (r : Refusal) → (GoesAlong writing → ⊥) → IsCause a r →
    IsCauseAtStart writing IsCause a r
cause_at_start Writing.at_end IsCause a r n h = h
cause_at_start (Writing.as_it_goes whole begun early) IsCause a r n h = absurd (n tt)
cause_at_start (Writing.in_turns turns) IsCause a r n h = h

refused_at_start : (c : Command) → (GoesAlong c.writing → ⊥) → (texts : List (List ℕ)) (r : Refusal) → IsRefusedOn c texts r → IsRefusedAtStart c texts r
refused_at_start c n texts r (IsRefusedOn.in_text e h q) = IsRefusedAtStart.in_text e h q
refused_at_start c n texts r (IsRefusedOn.behind_text a read (IsUnanswered.in_form f)) = IsRefusedAtStart.in_form a read f
refused_at_start c n texts r (IsRefusedOn.behind_text a read (IsUnanswered.in_work g w)) =
    IsRefusedAtStart.in_work a read g (cause_at_start c.writing c.IsCause a r n w)
refused_at_start c n texts r (IsRefusedOn.behind_text a read (IsUnanswered.no_memory e)) = IsRefusedAtStart.no_memory e
refused_at_start c n texts r (IsRefusedOn.no_memory e) = IsRefusedAtStart.no_memory e

-- a refusal of a command that doesn't write as it goes leaves nothing
pub nothing_left : (c : Command) → IsLawful c → (GoesAlong c.writing → ⊥) → (texts : List (List ℕ)) (o : OutputSeen) (r : Refusal) → IsRefusedOn c texts r →
    IsLeftInOutput c texts o o r
nothing_left c laws n texts o r h = at r (refused_kind c laws texts r h) (refused_at_start c n texts r h)
  where
    at : (r : Refusal) → IsOfWriting c.writing r → IsRefusedAtStart c texts r → IsLeftInOutput c texts o o r
    at (refusals.ListLimit most) k s = absurd (n k)
    at r k s = inl (s, Keeps-refl o.held)

-- so does any refusal before anything is written, which is none at the limit of a list
pub nothing_but_limit : (c : Command) (texts : List (List ℕ)) (o : OutputSeen) (r : Refusal) → ((most : ℕ) → r ≡ refusals.ListLimit most → ⊥) →
    IsRefusedAtStart c texts r → IsLeftInOutput c texts o o r
nothing_but_limit c texts o (refusals.ListLimit most) n s = absurd (n most refl)
nothing_but_limit c texts o r n s = inl (s, Keeps-refl o.held)

text_no_limit : (e : TextError) (most : ℕ) → of_text e ≡ refusals.ListLimit most → ⊥
text_no_limit (errors.Overflow o) most q = cc
text_no_limit (errors.Exponent o) most q = cc
text_no_limit (errors.Syntax s) most q = cc
text_no_limit (errors.TooWide at) most q = cc
text_no_limit (errors.UnknownName at) most q = cc
text_no_limit (errors.TooManyVariables count) most q = cc
text_no_limit (errors.ZeroPolynomial set index) most q = cc
text_no_limit errors.Memory most q = cc

-- a text that is refused leaves nothing
pub text_stopped : (c : Command) (texts : List (List ℕ)) (o : OutputSeen) (e : TextError) → c.reading.IsRefused texts e → IsStoppedOn c texts o o (of_text e)
text_stopped c texts o e h =
    IsStoppedOn.in_work (IsRefusedOn.in_text e h refl) (nothing_but_limit c texts o (of_text e) (text_no_limit e) (IsRefusedAtStart.in_text e h refl)) refl

-- the answer of a command that writes once is its whole text
pub answer_whole : (c : Command) (texts : List (List ℕ)) (text : List ℕ) → WritesOnce c.writing → IsAnswered c texts text → IsWholeFor c texts text
answer_whole c texts text e a = record { value = a.value; read = a.read; formed = a.answer.formed; is_whole = whole c.writing e }
  where
    whole : (writing : Writing c.Value) → WritesOnce writing → IsWholeBy writing c.IsAnswer a.value text
    whole Writing.at_end e = a.answer.is_answer
    whole (Writing.as_it_goes w b k) e = absurd e
    whole (Writing.in_turns t) e = absurd e

-- such a command neither writes as it goes nor takes turns
pub once_along : {A : Type 0} (writing : Writing A) → WritesOnce writing → GoesAlong writing → ⊥
once_along Writing.at_end e g = g
once_along (Writing.as_it_goes w b k) e g = e
once_along (Writing.in_turns t) e g = e

pub once_alone : {A : Type 0} (writing : Writing A) → WritesOnce writing → TakesTurns writing → ⊥
once_alone Writing.at_end e t = t
once_alone (Writing.as_it_goes w b k) e t = e
once_alone (Writing.in_turns u) e t = e

-- what is written once or as it is found isn't cut between turns
pub not_cut : (c : Command) (writing : Writing c.Value) (texts : List (List ℕ)) (m q : Seen) (o s : OutputSeen) (r : Refusal) → (TakesTurns writing → ⊥) →
    AreCut c writing texts m q o s r → ⊥
not_cut c Writing.at_end texts m q o s r n k = k
not_cut c (Writing.as_it_goes whole begun early) texts m q o s r n k = k
not_cut c (Writing.in_turns turns) texts m q o s r n k = n tt

-- there are as many texts as sources
pub loaded_length : (os : List Origin) (p q : Seen) (ts : List (List ℕ)) → AreLoaded os p q ts → length ts ≡ length os
loaded_length [] p q [] l = refl
loaded_length [] p q (t ∷ ts) l = absurd l
loaded_length (o ∷ os) p q [] l = absurd l
loaded_length (o ∷ os) p q (t ∷ ts) l = let e = loaded_length os l.0 q ts l.2 in omega (arith, e)

-- ---- a command that writes once

module _ (c : Command) (once : WritesOnce c.writing) (texts : List (List ℕ)) (o s : OutputSeen) where
  -- its answer is written
  pub once_done : (text : List ℕ) → IsAnswered c texts text → Appends o.held s.held text → s.faults ≡ o.faults → IsDoneOn c texts o s
  once_done text a g e = record { text = text; answered = a; gained = g; calm = e; alone = once_alone c.writing once }

  -- a write of it fails
  pub once_cut : (r : Refusal) (text : List ℕ) → IsAnswered c texts text → r ≡ refusals.WriteFault → Rose o.faults s.faults → AppendsPrefix o.held s.held text →
      IsStoppedOn c texts o s r
  once_cut r text a e rose part = IsStoppedOn.in_writing text (answer_whole c texts text once a) e rose part

-- it is refused before anything is written
pub once_refused : (c : Command) → IsLawful c → WritesOnce c.writing → (texts : List (List ℕ)) (o : OutputSeen) (r : Refusal) → IsRefusedOn c texts r →
    IsStoppedOn c texts o o r
once_refused c laws once texts o r h = IsStoppedOn.in_work h (nothing_left c laws (once_along c.writing once) texts o r h) refl
