-- How a run of a lawful command ends, in one case for all commands.
-- To cite: exact_stopped, exact_done, fixed_stopped, fixed_done, reach_stopped, long_stopped, long_done, job_stopped, stopped_not_usage, read_stopped,
-- open_stopped,
-- too_long_stopped, short_stopped, short_done, write_stopped, quiet_stopped, limit_stopped, input_stopped, input_done, files_stopped, files_done; calm_done,
-- input_calm_stopped, files_calm_stopped, open_calm_stopped, output_calm_stopped. The rest are steps.
use Rattle.std.specs.Prelude.{◌≡◌, ◌⊎◌, ℕ, List, Some}
use Rattle.std.specs.Io.KnownBytes.{Appends, Keeps}
use Rattle.std.proofs.Common.{refl, sym, ap, ◌∙◌, subst, inl, inr}
use Rattle.gf_outside.specs.Faults.{Rose}
use Rattle.gf_front.specs.declared.refusal.Refusal.{Refusal}
use Rattle.gf_front.specs.declared.refusal.Refusal.TheVariants as refusals
use Rattle.gf_items.specs.Checks.{AllHold}
use Rattle.gf_items.specs.Refusals.{IsOfNumbers, TellsSame}
use Rattle.gf_frame.specs.Seen.{InputSeen, FilesSeen, Seen, OutputSeen}
use Rattle.gf_frame.specs.Loading.{AreLoaded, AreKnown, IsSomeLong, HaveInput, HaveFile, AreReadWithin, IsOneTooLong}
use Rattle.gf_frame.specs.Commands.{Writing, Command, IsOfWriting, IsWholeFor, IsBegunFor, IsRefusedAtOnce, IsRefusedOn, IsRefusedAtStart, IsInReach}
use Rattle.gf_frame.specs.Commands.{IsFixed, IsOfOutside}
use Rattle.gf_frame.specs.Runs.{IsCarriedOut, IsDoneBy, AreCut, IsLeftInOutput, IsStoppedBy, AreGivenTexts, IsJobRefused, IsHeard, TakesTurns, LeavesInOutput}
use Rattle.gf_frame.proofs.LoadingLaws.{loaded_known, unloaded_known, unloaded_long, loaded_not_long, unloaded_outside, unloaded_not_usage, unloaded_not_write}
use Rattle.gf_frame.proofs.LoadingLaws.{unloaded_read, unloaded_open, unloaded_too_long, unloaded_within, loaded_within, loaded_calm, unloaded_input_calm}
use Rattle.gf_frame.proofs.LoadingLaws.{unloaded_files_calm, unloaded_open_calm, loaded_kept, unloaded_kept, loaded_input, unloaded_input, loaded_files}
use Rattle.gf_frame.proofs.LoadingLaws.{unloaded_files}
use Rattle.gf_frame.proofs.CommandLaws.{IsOfTurns, TurnsHold, IsLawful, as_told, exact, not_formed, no_whole, tested, no_tested_answer, no_tested_whole}
use Rattle.gf_frame.proofs.CommandLaws.{fixed_here, in_reach, refused_kind}

-- ---- kinds

writing_write : {A : Type 0} (writing : Writing A) (r : Refusal) → r ≡ refusals.WriteFault → IsOfWriting writing r → ⊥
writing_write writing r e k = subst (IsOfWriting writing) e k

writing_inside : {A : Type 0} (writing : Writing A) (r : Refusal) → IsOfWriting writing r → (r ≡ refusals.Usage → ⊥) × (r ≡ refusals.ReadFault →
    ⊥) × (r ≡ refusals.OpenFault → ⊥) × (r ≡ refusals.InputTooLong → ⊥)
writing_inside writing r k = (
  λ e. subst (IsOfWriting writing) e k,
  λ e. subst (IsOfWriting writing) e k,
  λ e. subst (IsOfWriting writing) e k,
  λ e. subst (IsOfWriting writing) e k,
)

module _ (c : Command) (laws : IsLawful c) (p q : Seen) (o s : OutputSeen) where
  -- ---- turns

  cut_value : (writing : Writing c.Value) (texts : List (List ℕ)) (m : Seen) (d : Refusal) → AreCut c writing texts m q o s d →
      (a : c.Value) × c.reading.IsRead texts a × AllHold (c.checks a)
  cut_value Writing.at_end texts m d k = absurd k
  cut_value (Writing.as_it_goes whole begun early) texts m d k = absurd k
  cut_value (Writing.in_turns turns) texts m d k = (k.1.0, k.1.1, k.1.2)

  cut_kind : (writing : Writing c.Value) → TurnsHold c.IsCause c.IsWithin writing → (texts : List (List ℕ)) (m : Seen) (d : Refusal) →
      AreCut c writing texts m q o s d → IsOfTurns d
  cut_kind Writing.at_end h texts m d k = absurd k
  cut_kind (Writing.as_it_goes whole begun early) h texts m d k = absurd k
  cut_kind (Writing.in_turns turns) h texts m d k = h.kind k.1.0 d m.input q.input o s k.1.3

  cut_fixed : (writing : Writing c.Value) → TurnsHold c.IsCause c.IsWithin writing → (texts : List (List ℕ)) (m : Seen) (r d : Refusal) → IsFixed r →
      IsRefusedOn c texts r → AreCut c writing texts m q o s d → ⊥
  cut_fixed Writing.at_end h texts m r d x w k = k
  cut_fixed (Writing.as_it_goes whole begun early) h texts m r d x w k = k
  cut_fixed (Writing.in_turns turns) h texts m r d x w k = h.cut k.1.0 r d m.input q.input o s x (fixed_here c laws texts r k.1.0 x w k.1.1 k.1.2) k.1.3

  cut_reach : (writing : Writing c.Value) → TurnsHold c.IsCause c.IsWithin writing → (texts : List (List ℕ)) (m : Seen) (d : Refusal) (a : c.Value) →
      c.reading.IsRead texts a → c.IsWithin a → (TakesTurns writing → HaveInput c.reads → ⊥) → AreLoaded c.reads p m texts → IsHeard writing p q →
      (Rose o.faults s.faults → ⊥) → AreCut c writing texts m q o s d → d ≡ refusals.Memory
  cut_reach Writing.at_end h texts m d a read w apart l g calm k = absurd k
  cut_reach (Writing.as_it_goes whole begun early) h texts m d a read w apart l g calm k = absurd k
  cut_reach (Writing.in_turns turns) h texts m d a read w apart l g calm k =
      let e : m.input ≡ p.input = loaded_input c.reads p m texts (apart tt) l in
      let known : m.input.left ≡ Some g.0 = ap (λ (i : InputSeen). i.left) e ∙ g.1.0 in
      h.reach k.1.0 d m.input q.input o s g.0 (subst (λ z. c.IsWithin z) (laws.reading.once texts k.1.0 a k.1.1 read) w) known g.2
      (subst (λ (i : InputSeen). Rose i.faults q.input.faults → ⊥) (sym e) g.1.1) calm k.1.3

  -- ---- what is answered before any work

  same_texts : (texts us : List (List ℕ)) (m : Seen) → AreGivenTexts c p q texts → AreLoaded c.reads p m us → us ≡ texts
  same_texts texts us m g l = loaded_known c.reads p q m texts us laws.input g.known l

  pub exact_stopped : (texts : List (List ℕ)) (r d : Refusal) → AreGivenTexts c p q texts → IsRefusedAtOnce c texts r → IsStoppedBy c p q o s d →
      (d ≡ r) ⊎ (d ≡ refusals.Memory)
  exact_stopped texts r d g h (IsStoppedBy.in_loading u k n) = inr (unloaded_known c.reads p q texts d laws.input g.known g.short u)
  exact_stopped texts r d g h (IsStoppedBy.in_work us l k left n) = exact c laws texts r d h (subst (λ z. IsRefusedOn c z d) (same_texts texts us q g l) k)
  exact_stopped texts r d g h (IsStoppedBy.in_writing us text l w e rose part) =
      absurd (no_whole c laws texts r text h (subst (λ z. IsWholeFor c z text) (same_texts texts us q g l) w))
  exact_stopped texts r d g h (IsStoppedBy.in_turns us m l k) =
      let v = cut_value c.writing us m d k in
      absurd (not_formed c laws texts r v.0 h (subst (λ z. c.reading.IsRead z v.0) (same_texts texts us m g l) v.1) v.2)

  gone_value : (writing : Writing c.Value) (texts : List (List ℕ)) (m : Seen) → IsCarriedOut c writing texts m q o s →
      (a : c.Value) × c.reading.IsRead texts a × AllHold (c.checks a)
  gone_value Writing.at_end texts m k = (k.1.1.value, k.1.1.read, k.1.1.answer.formed)
  gone_value (Writing.as_it_goes whole begun early) texts m k = (k.1.1.value, k.1.1.read, k.1.1.answer.formed)
  gone_value (Writing.in_turns turns) texts m k = (k.1.0, k.1.1, k.1.2)

  pub exact_done : (texts : List (List ℕ)) (r : Refusal) → AreGivenTexts c p q texts → IsRefusedAtOnce c texts r → IsDoneBy c p q o s → ⊥
  exact_done texts r g h d =
      let v = gone_value c.writing d.texts d.then d.gone in
      not_formed c laws texts r v.0 h (subst (λ z. c.reading.IsRead z v.0) (same_texts texts d.texts d.then g d.loaded) v.1) v.2

  -- ---- what is fixed

  pub fixed_stopped : (texts : List (List ℕ)) (r d : Refusal) → AreGivenTexts c p q texts → IsFixed r → IsRefusedOn c texts r → IsStoppedBy c p q o s d →
      TellsSame r d ⊎ IsOfNumbers d
  fixed_stopped texts r d g x h (IsStoppedBy.in_loading u k n) = as_told r d (inr (unloaded_known c.reads p q texts d laws.input g.known g.short u))
  fixed_stopped texts r d g x h (IsStoppedBy.in_work us l k left n) = tested c laws texts r d x h (subst (λ z. IsRefusedOn c z d) (same_texts texts us q g l) k)
  fixed_stopped texts r d g x h (IsStoppedBy.in_writing us text l w e rose part) =
      absurd (no_tested_whole c laws texts r text x h (subst (λ z. IsWholeFor c z text) (same_texts texts us q g l) w))
  fixed_stopped texts r d g x h (IsStoppedBy.in_turns us m l k) =
      absurd (cut_fixed c.writing laws.turns us m r d x (subst (λ z. IsRefusedOn c z r) (sym (same_texts texts us m g l)) h) k)

  gone_fixed : (writing : Writing c.Value) → TurnsHold c.IsCause c.IsWithin writing → (texts : List (List ℕ)) (m : Seen) (r : Refusal) → IsFixed r →
      IsRefusedOn c texts r → IsCarriedOut c writing texts m q o s → ⊥
  gone_fixed Writing.at_end h texts m r x w k = no_tested_answer c laws texts r k.1.0 x w k.1.1
  gone_fixed (Writing.as_it_goes whole begun early) h texts m r x w k = no_tested_answer c laws texts r k.1.0 x w k.1.1
  gone_fixed (Writing.in_turns turns) h texts m r x w k = h.ended k.1.0 r m.input q.input o s x (fixed_here c laws texts r k.1.0 x w k.1.1 k.1.2) k.1.3

  pub fixed_done : (texts : List (List ℕ)) (r : Refusal) → AreGivenTexts c p q texts → IsFixed r → IsRefusedOn c texts r → IsDoneBy c p q o s → ⊥
  fixed_done texts r g x h d =
      gone_fixed c.writing laws.turns d.texts d.then r x (subst (λ z. IsRefusedOn c z r) (sym (same_texts texts d.texts d.then g d.loaded)) h) d.gone

  -- ---- within reach

  pub reach_stopped : (texts : List (List ℕ)) (d : Refusal) → AreGivenTexts c p q texts → IsInReach c texts → IsHeard c.writing p q →
      (Rose o.faults s.faults → ⊥) → IsStoppedBy c p q o s d → d ≡ refusals.Memory
  reach_stopped texts d g w heard calm (IsStoppedBy.in_loading u k n) = unloaded_known c.reads p q texts d laws.input g.known g.short u
  reach_stopped texts d g w heard calm (IsStoppedBy.in_work us l k left n) =
      in_reach c laws texts d w (subst (λ z. IsRefusedOn c z d) (same_texts texts us q g l) k)
  reach_stopped texts d g w heard calm (IsStoppedBy.in_writing us text l v e rose part) = absurd (calm rose)
  reach_stopped texts d g w heard calm (IsStoppedBy.in_turns us m l k) =
      cut_reach c.writing laws.turns us m d w.value (subst (λ z. c.reading.IsRead z w.value) (sym (same_texts texts us m g l)) w.read)
      w.within laws.apart l heard calm k

  -- ---- a source that is too long

  pub long_stopped : (texts : List (List ℕ)) (d : Refusal) → AreKnown c.reads p q texts → IsSomeLong texts → IsStoppedBy c p q o s d →
      (d ≡ refusals.InputTooLong) ⊎ (d ≡ refusals.Memory)
  long_stopped texts d k h (IsStoppedBy.in_loading u e n) = unloaded_long c.reads p q texts d laws.input k u
  long_stopped texts d k h (IsStoppedBy.in_work us l w left n) =
      absurd (loaded_not_long c.reads p q us l (subst IsSomeLong (sym (loaded_known c.reads p q q texts us laws.input k l)) h))
  long_stopped texts d k h (IsStoppedBy.in_writing us text l w e rose part) =
      absurd (loaded_not_long c.reads p q us l (subst IsSomeLong (sym (loaded_known c.reads p q q texts us laws.input k l)) h))
  long_stopped texts d k h (IsStoppedBy.in_turns us m l w) =
      absurd (loaded_not_long c.reads p m us l (subst IsSomeLong (sym (loaded_known c.reads p q m texts us laws.input k l)) h))

  pub long_done : (texts : List (List ℕ)) → AreKnown c.reads p q texts → IsSomeLong texts → IsDoneBy c p q o s → ⊥
  long_done texts k h d =
      loaded_not_long c.reads p d.then d.texts d.loaded (subst IsSomeLong (sym (loaded_known c.reads p q d.then texts d.texts laws.input k d.loaded)) h)

  -- ---- which refusal

  work_not : (texts : List (List ℕ)) (r : Refusal) → IsRefusedOn c texts r → (r ≡ refusals.Usage → ⊥) × (r ≡ refusals.ReadFault → ⊥) × (r ≡ refusals.OpenFault →
      ⊥) × (r ≡ refusals.InputTooLong → ⊥)
  work_not texts r h = writing_inside c.writing r (refused_kind c laws texts r h)

  -- a refusal that isn't of the outside is of what is read, or of the turns
  pub job_stopped : (r : Refusal) → (IsOfOutside r → ⊥) → IsStoppedBy c p q o s r → IsJobRefused c p q o s r
  job_stopped r n (IsStoppedBy.in_loading u k e) = absurd (n (unloaded_outside c.reads p q r u))
  job_stopped r n (IsStoppedBy.in_work texts l h left e) = IsJobRefused.on_texts texts l h
  job_stopped r n (IsStoppedBy.in_writing texts text l w e rose part) = absurd (n (subst IsOfOutside (sym e) tt))
  job_stopped r n (IsStoppedBy.in_turns texts m l k) = IsJobRefused.in_turns texts m l k

  pub stopped_not_usage : IsStoppedBy c p q o s refusals.Usage → ⊥
  stopped_not_usage (IsStoppedBy.in_loading u k n) = unloaded_not_usage c.reads p q u
  stopped_not_usage (IsStoppedBy.in_work texts l h left n) = (work_not texts refusals.Usage h).0 refl
  stopped_not_usage (IsStoppedBy.in_writing texts text l w e rose part) = cc
  stopped_not_usage (IsStoppedBy.in_turns texts m l k) = cut_kind c.writing laws.turns texts m refusals.Usage k

  pub open_stopped : IsStoppedBy c p q o s refusals.OpenFault → Rose p.files.unopened q.files.unopened
  open_stopped (IsStoppedBy.in_loading u k n) = unloaded_open c.reads p q u
  open_stopped (IsStoppedBy.in_work texts l h left n) = absurd ((work_not texts refusals.OpenFault h).2 refl)
  open_stopped (IsStoppedBy.in_writing texts text l w e rose part) = cc
  open_stopped (IsStoppedBy.in_turns texts m l k) = absurd (cut_kind c.writing laws.turns texts m refusals.OpenFault k)

  cut_read : (writing : Writing c.Value) → TurnsHold c.IsCause c.IsWithin writing → (texts : List (List ℕ)) (m : Seen) →
      AreCut c writing texts m q o s refusals.ReadFault → Rose m.input.faults q.input.faults
  cut_read Writing.at_end h texts m k = absurd k
  cut_read (Writing.as_it_goes whole begun early) h texts m k = absurd k
  cut_read (Writing.in_turns turns) h texts m k = h.read k.1.0 m.input q.input o s k.1.3

  pub read_stopped : IsStoppedBy c p q o s refusals.ReadFault → Rose p.input.faults q.input.faults ⊎ Rose p.files.faults q.files.faults
  read_stopped (IsStoppedBy.in_loading u k n) = unloaded_read c.reads p q u
  read_stopped (IsStoppedBy.in_work texts l h left n) = absurd ((work_not texts refusals.ReadFault h).1 refl)
  read_stopped (IsStoppedBy.in_writing texts text l w e rose part) = cc
  read_stopped (IsStoppedBy.in_turns texts m l k) =
      inl (subst (λ n. Rose n q.input.faults) (loaded_calm c.reads p m texts l).0 (cut_read c.writing laws.turns texts m k))

  -- one byte more than it may have was taken of a source; or the turns are cut off
  pub too_long_stopped : IsStoppedBy c p q o s refusals.InputTooLong →
      IsOneTooLong c.reads p q ⊎ ((texts : List (List ℕ)) × (m : Seen) × AreLoaded c.reads p m texts × AreCut c c.writing texts m q o s refusals.InputTooLong)
  too_long_stopped (IsStoppedBy.in_loading u k n) = inl (unloaded_too_long c.reads p q u)
  too_long_stopped (IsStoppedBy.in_work texts l h left n) = absurd ((work_not texts refusals.InputTooLong h).3 refl)
  too_long_stopped (IsStoppedBy.in_writing texts text l w e rose part) = cc
  too_long_stopped (IsStoppedBy.in_turns texts m l k) = inr (texts, m, l, k)

  -- any other refusal without turns leaves no more read of any source than it may have
  pub short_stopped : (r : Refusal) → (TakesTurns c.writing → ⊥) → (r ≡ refusals.InputTooLong → ⊥) → IsStoppedBy c p q o s r → AreReadWithin c.reads p q
  short_stopped r t n (IsStoppedBy.in_loading u k e) = unloaded_within c.reads p q r n u
  short_stopped r t n (IsStoppedBy.in_work texts l h left e) = loaded_within c.reads p q texts l
  short_stopped r t n (IsStoppedBy.in_writing texts text l w e rose part) = loaded_within c.reads p q texts l
  short_stopped r t n (IsStoppedBy.in_turns texts m l k) = absurd (no_turns c.writing t texts m r k)
    where
      no_turns : (writing : Writing c.Value) → (TakesTurns writing → ⊥) → (texts : List (List ℕ)) (m : Seen) (r : Refusal) → AreCut c writing texts m q o s r →
          ⊥
      no_turns Writing.at_end t texts m r k = k
      no_turns (Writing.as_it_goes whole begun early) t texts m r k = k
      no_turns (Writing.in_turns turns) t texts m r k = t tt

  -- nor does one that is done without turns
  pub short_done : (TakesTurns c.writing → ⊥) → IsDoneBy c p q o s → AreReadWithin c.reads p q
  short_done t d = subst (AreReadWithin c.reads p) (sym (no_more c.writing t d.gone)) (loaded_within c.reads p d.then d.texts d.loaded)
    where
      no_more : (writing : Writing c.Value) → (TakesTurns writing → ⊥) → IsCarriedOut c writing d.texts d.then q o s → q ≡ d.then
      no_more Writing.at_end t k = k.0
      no_more (Writing.as_it_goes whole begun early) t k = k.0
      no_more (Writing.in_turns turns) t k = absurd (t tt)

  -- ---- what is written

  cut_write : (writing : Writing c.Value) → TurnsHold c.IsCause c.IsWithin writing → (texts : List (List ℕ)) (m : Seen) →
      AreCut c writing texts m q o s refusals.WriteFault → Rose o.faults s.faults
  cut_write Writing.at_end h texts m k = absurd k
  cut_write (Writing.as_it_goes whole begun early) h texts m k = absurd k
  cut_write (Writing.in_turns turns) h texts m k = h.write k.1.0 m.input q.input o s k.1.3

  pub write_stopped : IsStoppedBy c p q o s refusals.WriteFault → Rose o.faults s.faults
  write_stopped (IsStoppedBy.in_loading u k n) = absurd (unloaded_not_write c.reads p q u)
  write_stopped (IsStoppedBy.in_work texts l h left n) =
      absurd (writing_write c.writing refusals.WriteFault refl (refused_kind c laws texts refusals.WriteFault h))
  write_stopped (IsStoppedBy.in_writing texts text l w e rose part) = rose
  write_stopped (IsStoppedBy.in_turns texts m l k) = cut_write c.writing laws.turns texts m k

  left_written : (texts : List (List ℕ)) (r : Refusal) → IsLeftInOutput c texts o s r →
      (IsRefusedAtStart c texts r × Keeps o.held s.held) ⊎ ((text : List ℕ) × IsBegunFor c texts text r × Appends o.held s.held text)
  left_written texts (refusals.ListLimit most) h = inr h
  left_written texts r h = h

  -- nothing before anything is written, or the beginning of the text, or the turns until then
  pub quiet_stopped : (r : Refusal) → (r ≡ refusals.WriteFault → ⊥) → IsStoppedBy c p q o s r → LeavesInOutput c p q o s r
  quiet_stopped r n (IsStoppedBy.in_loading u k e) = LeavesInOutput.unloaded u k
  quiet_stopped r n (IsStoppedBy.in_work texts l h left e) = elim (left_written texts r left) [
    | inl k ↦ LeavesInOutput.at_start texts l k.0 k.1
    | inr b ↦ LeavesInOutput.beginning texts b.0 l b.1 b.2
  ]
  quiet_stopped r n (IsStoppedBy.in_writing texts text l w e rose part) = absurd (n e)
  quiet_stopped r n (IsStoppedBy.in_turns texts m l k) = LeavesInOutput.turns texts m l k

  -- at the limit of a list just its beginning stands
  pub limit_stopped : (most : ℕ) → IsStoppedBy c p q o s (refusals.ListLimit most) →
      (texts : List (List ℕ)) × AreLoaded c.reads p q texts × IsRefusedOn c texts (refusals.ListLimit most) ×
      ((text : List ℕ) × IsBegunFor c texts text (refusals.ListLimit most) × Appends o.held s.held text)
  limit_stopped most (IsStoppedBy.in_loading u k e) = absurd (unloaded_outside c.reads p q (refusals.ListLimit most) u)
  limit_stopped most (IsStoppedBy.in_work texts l h left e) = (texts, l, h, left)
  limit_stopped most (IsStoppedBy.in_writing texts text l w e rose part) = cc
  limit_stopped most (IsStoppedBy.in_turns texts m l k) = absurd (cut_kind c.writing laws.turns texts m (refusals.ListLimit most) k)

  -- ---- what is as before

  -- a command that reads no file leaves files as they were
  gone_files : (writing : Writing c.Value) (texts : List (List ℕ)) (m : Seen) → IsCarriedOut c writing texts m q o s → q.files ≡ m.files
  gone_files Writing.at_end texts m k = ap (λ (x : Seen). x.files) k.0
  gone_files (Writing.as_it_goes whole begun early) texts m k = ap (λ (x : Seen). x.files) k.0
  gone_files (Writing.in_turns turns) texts m k = k.0

  cut_files : (writing : Writing c.Value) (texts : List (List ℕ)) (m : Seen) (r : Refusal) → AreCut c writing texts m q o s r → q.files ≡ m.files
  cut_files Writing.at_end texts m r k = absurd k
  cut_files (Writing.as_it_goes whole begun early) texts m r k = absurd k
  cut_files (Writing.in_turns turns) texts m r k = k.0

  pub files_done : (HaveFile c.reads → ⊥) → IsDoneBy c p q o s → q.files ≡ p.files
  files_done n d = gone_files c.writing d.texts d.then d.gone ∙ loaded_files c.reads p d.then d.texts n d.loaded

  pub files_stopped : (r : Refusal) → (HaveFile c.reads → ⊥) → IsStoppedBy c p q o s r → q.files ≡ p.files
  files_stopped r n (IsStoppedBy.in_loading u k e) = unloaded_files c.reads p q r n u
  files_stopped r n (IsStoppedBy.in_work texts l h left e) = loaded_files c.reads p q texts n l
  files_stopped r n (IsStoppedBy.in_writing texts text l w e rose part) = loaded_files c.reads p q texts n l
  files_stopped r n (IsStoppedBy.in_turns texts m l k) = cut_files c.writing texts m r k ∙ loaded_files c.reads p m texts n l

  -- one that doesn't read the input, nor takes turns, leaves the input as it was
  gone_input : (writing : Writing c.Value) → (TakesTurns writing → ⊥) → (texts : List (List ℕ)) (m : Seen) → IsCarriedOut c writing texts m q o s →
      q.input ≡ m.input
  gone_input Writing.at_end t texts m k = ap (λ (x : Seen). x.input) k.0
  gone_input (Writing.as_it_goes whole begun early) t texts m k = ap (λ (x : Seen). x.input) k.0
  gone_input (Writing.in_turns turns) t texts m k = absurd (t tt)

  cut_input : (writing : Writing c.Value) → (TakesTurns writing → ⊥) → (texts : List (List ℕ)) (m : Seen) (r : Refusal) → AreCut c writing texts m q o s r →
      q.input ≡ m.input
  cut_input Writing.at_end t texts m r k = absurd k
  cut_input (Writing.as_it_goes whole begun early) t texts m r k = absurd k
  cut_input (Writing.in_turns turns) t texts m r k = absurd (t tt)

  pub input_done : (TakesTurns c.writing → ⊥) → (HaveInput c.reads → ⊥) → IsDoneBy c p q o s → q.input ≡ p.input
  input_done t n d = gone_input c.writing t d.texts d.then d.gone ∙ loaded_input c.reads p d.then d.texts n d.loaded

  pub input_stopped : (r : Refusal) → (TakesTurns c.writing → ⊥) → (HaveInput c.reads → ⊥) → IsStoppedBy c p q o s r → q.input ≡ p.input
  input_stopped r t n (IsStoppedBy.in_loading u k e) = unloaded_input c.reads p q r n u
  input_stopped r t n (IsStoppedBy.in_work texts l h left e) = loaded_input c.reads p q texts n l
  input_stopped r t n (IsStoppedBy.in_writing texts text l w e rose part) = loaded_input c.reads p q texts n l
  input_stopped r t n (IsStoppedBy.in_turns texts m l k) = cut_input c.writing t texts m r k ∙ loaded_input c.reads p m texts n l

  -- ---- no fault is counted but the one that is answered

  gone_calm : (writing : Writing c.Value) → TurnsHold c.IsCause c.IsWithin writing → (texts : List (List ℕ)) (m : Seen) → IsCarriedOut c writing texts m q o s →
      q.input.faults ≡ m.input.faults
  gone_calm Writing.at_end h texts m k = ap (λ (x : Seen). x.input.faults) k.0
  gone_calm (Writing.as_it_goes whole begun early) h texts m k = ap (λ (x : Seen). x.input.faults) k.0
  gone_calm (Writing.in_turns turns) h texts m k = h.ended_calm k.1.0 m.input q.input o s k.1.3

  pub calm_done : IsDoneBy c p q o s → (q.input.faults ≡ p.input.faults) × (q.files.unopened ≡ p.files.unopened) × (q.files.faults ≡ p.files.faults) ×
      (s.faults ≡ o.faults)
  calm_done d =
      let l = loaded_calm c.reads p d.then d.texts d.loaded in
      let f = gone_files c.writing d.texts d.then d.gone in (
        gone_calm c.writing laws.turns d.texts d.then d.gone ∙ l.0,
        ap (λ (x : FilesSeen). x.unopened) f ∙ l.1,
        ap (λ (x : FilesSeen). x.faults) f ∙ l.2,
        d.calm,
      )

  cut_read_calm : (writing : Writing c.Value) → TurnsHold c.IsCause c.IsWithin writing → (texts : List (List ℕ)) (m : Seen) (r : Refusal) →
      (r ≡ refusals.ReadFault → ⊥) → AreCut c writing texts m q o s r → q.input.faults ≡ m.input.faults
  cut_read_calm Writing.at_end h texts m r n k = absurd k
  cut_read_calm (Writing.as_it_goes whole begun early) h texts m r n k = absurd k
  cut_read_calm (Writing.in_turns turns) h texts m r n k = h.read_calm k.1.0 r m.input q.input o s n k.1.3

  cut_write_calm : (writing : Writing c.Value) → TurnsHold c.IsCause c.IsWithin writing → (texts : List (List ℕ)) (m : Seen) (r : Refusal) →
      (r ≡ refusals.WriteFault → ⊥) → AreCut c writing texts m q o s r → s.faults ≡ o.faults
  cut_write_calm Writing.at_end h texts m r n k = absurd k
  cut_write_calm (Writing.as_it_goes whole begun early) h texts m r n k = absurd k
  cut_write_calm (Writing.in_turns turns) h texts m r n k = h.write_calm k.1.0 r m.input q.input o s n k.1.3

  pub input_calm_stopped : (r : Refusal) → (r ≡ refusals.ReadFault → ⊥) → IsStoppedBy c p q o s r → q.input.faults ≡ p.input.faults
  input_calm_stopped r n (IsStoppedBy.in_loading u k e) = unloaded_input_calm c.reads p q r n u
  input_calm_stopped r n (IsStoppedBy.in_work texts l h left e) = (loaded_calm c.reads p q texts l).0
  input_calm_stopped r n (IsStoppedBy.in_writing texts text l w e rose part) = (loaded_calm c.reads p q texts l).0
  input_calm_stopped r n (IsStoppedBy.in_turns texts m l k) = cut_read_calm c.writing laws.turns texts m r n k ∙ (loaded_calm c.reads p m texts l).0

  pub files_calm_stopped : (r : Refusal) → (r ≡ refusals.ReadFault → ⊥) → IsStoppedBy c p q o s r → q.files.faults ≡ p.files.faults
  files_calm_stopped r n (IsStoppedBy.in_loading u k e) = unloaded_files_calm c.reads p q r n u
  files_calm_stopped r n (IsStoppedBy.in_work texts l h left e) = (loaded_calm c.reads p q texts l).2
  files_calm_stopped r n (IsStoppedBy.in_writing texts text l w e rose part) = (loaded_calm c.reads p q texts l).2
  files_calm_stopped r n (IsStoppedBy.in_turns texts m l k) =
      ap (λ (x : FilesSeen). x.faults) (cut_files c.writing texts m r k) ∙ (loaded_calm c.reads p m texts l).2

  pub open_calm_stopped : (r : Refusal) → (r ≡ refusals.OpenFault → ⊥) → IsStoppedBy c p q o s r → q.files.unopened ≡ p.files.unopened
  open_calm_stopped r n (IsStoppedBy.in_loading u k e) = unloaded_open_calm c.reads p q r n u
  open_calm_stopped r n (IsStoppedBy.in_work texts l h left e) = (loaded_calm c.reads p q texts l).1
  open_calm_stopped r n (IsStoppedBy.in_writing texts text l w e rose part) = (loaded_calm c.reads p q texts l).1
  open_calm_stopped r n (IsStoppedBy.in_turns texts m l k) =
      ap (λ (x : FilesSeen). x.unopened) (cut_files c.writing texts m r k) ∙ (loaded_calm c.reads p m texts l).1

  pub output_calm_stopped : (r : Refusal) → (r ≡ refusals.WriteFault → ⊥) → IsStoppedBy c p q o s r → s.faults ≡ o.faults
  output_calm_stopped r n (IsStoppedBy.in_loading u k e) = e
  output_calm_stopped r n (IsStoppedBy.in_work texts l h left e) = e
  output_calm_stopped r n (IsStoppedBy.in_writing texts text l w e rose part) = absurd (n e)
  output_calm_stopped r n (IsStoppedBy.in_turns texts m l k) = cut_write_calm c.writing laws.turns texts m r n k

  -- ---- what files hold stays

  pub kept_done : IsDoneBy c p q o s → q.files.bytes ≡ p.files.bytes
  kept_done d = ap (λ (x : FilesSeen). x.bytes) (gone_files c.writing d.texts d.then d.gone) ∙ loaded_kept c.reads p d.then d.texts d.loaded

  pub kept_stopped : (r : Refusal) → IsStoppedBy c p q o s r → q.files.bytes ≡ p.files.bytes
  kept_stopped r (IsStoppedBy.in_loading u k e) = unloaded_kept c.reads p q r u
  kept_stopped r (IsStoppedBy.in_work texts l h left e) = loaded_kept c.reads p q texts l
  kept_stopped r (IsStoppedBy.in_writing texts text l w e rose part) = loaded_kept c.reads p q texts l
  kept_stopped r (IsStoppedBy.in_turns texts m l k) = ap (λ (x : FilesSeen). x.bytes) (cut_files c.writing texts m r k) ∙ loaded_kept c.reads p m texts l
