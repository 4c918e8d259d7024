-- Texts are answered in one way by a lawful command.
-- To cite: IsLawful, AreLawfulTurns, TurnsHold, exact, no_answer, no_whole, tested, no_tested_answer, no_tested_whole, in_reach, refused_kind. The rest are
-- steps.
use Rattle.std.specs.Prelude.{◌≡◌, ◌⊎◌, ℕ, ◌≤◌, List, length, Some}
use Rattle.std.proofs.Common.{refl, sym, ap, ◌∙◌, subst, inl, inr}
use Rattle.gf_outside.specs.Faults.{Rose}
use Rattle.gf_text.specs.declared.error.TextError.{TextError}
use Rattle.gf_text.specs.declared.error.TextError.TheVariants as errors
use Rattle.gf_front.specs.declared.refusal.Refusal.{Refusal}
use Rattle.gf_front.specs.declared.refusal.Refusal.TheVariants as refusals
use Rattle.gf_front.specs.Kinds.{RefusalKind, kind_of_refusal, IsTextKind, IsFormKind}
use Rattle.gf_items.specs.Checks.{AllHold, FirstFails}
use Rattle.gf_items.specs.Refusals.{of_text, IsExactRefusal, IsOfNumbers, IsOfTest, TellsSame}
use Rattle.gf_items.proofs.ReadingLaws.{said, exact_said}
use Rattle.gf_items.proofs.CheckLaws.{AreCheckedOnce, first_once, first_apart, first_kind}
use Rattle.gf_frame.specs.Seen.{InputSeen, OutputSeen}
use Rattle.gf_frame.specs.Loading.{HaveInput, HaveInputOnce}
use Rattle.gf_frame.specs.Runs.{TakesTurns}
use Rattle.gf_frame.specs.Readings.{AreReadOnce}
use Rattle.gf_frame.specs.Commands.{Turns, Writing, Command, IsWholeBy, IsKindOfWriting, IsOfWriting, IsUnanswered, IsAnswered, IsWholeFor, IsRefusedAtOnce}
use Rattle.gf_frame.specs.Commands.{IsRefusedOn, IsInReach, IsFixed}

-- ---- what a command owes

-- turns are cut off by the outside, or by numbers; no file is opened in them
abbrev pub IsKindOfTurns : RefusalKind → Type 0
IsKindOfTurns RefusalKind.outside = Unit {0}
IsKindOfTurns RefusalKind.numbers = Unit {0}
IsKindOfTurns RefusalKind.memory = Unit {0}
IsKindOfTurns _ = ⊥

abbrev pub IsOfTurns : Refusal → Type 0
IsOfTurns refusals.OpenFault = ⊥
IsOfTurns r = IsKindOfTurns (kind_of_refusal r)

-- what the turns of a command owe
pub record AreLawfulTurns {A : Type 0} (IsCause : A → Refusal → Type 0) (IsWithin : A → Type 0) (turns : Turns A) : Type 0 where
  -- there are none where what is read is refused
  pub ended : (a : A) (r : Refusal) (i j : InputSeen) (o s : OutputSeen) → IsFixed r → IsCause a r → turns.IsEnded a i j o s → ⊥
  pub cut : (a : A) (r d : Refusal) (i j : InputSeen) (o s : OutputSeen) → IsFixed r → IsCause a r → turns.IsCut a i j o s d → ⊥
  pub kind : (a : A) (r : Refusal) (i j : InputSeen) (o s : OutputSeen) → turns.IsCut a i j o s r → IsOfTurns r
  pub read : (a : A) (i j : InputSeen) (o s : OutputSeen) → turns.IsCut a i j o s refusals.ReadFault → Rose i.faults j.faults
  pub write : (a : A) (i j : InputSeen) (o s : OutputSeen) → turns.IsCut a i j o s refusals.WriteFault → Rose o.faults s.faults
  pub reach : (a : A) (r : Refusal) (i j : InputSeen) (o s : OutputSeen) (source : List ℕ) → IsWithin a → i.left ≡ Some source → length source ≤ 67108864 →
      (Rose i.faults j.faults → ⊥) → (Rose o.faults s.faults → ⊥) → turns.IsCut a i j o s r → r ≡ refusals.Memory
  -- no fault is counted but the one that is answered
  pub ended_calm : (a : A) (i j : InputSeen) (o s : OutputSeen) → turns.IsEnded a i j o s → j.faults ≡ i.faults
  pub read_calm : (a : A) (r : Refusal) (i j : InputSeen) (o s : OutputSeen) → (r ≡ refusals.ReadFault → ⊥) → turns.IsCut a i j o s r → j.faults ≡ i.faults
  pub write_calm : (a : A) (r : Refusal) (i j : InputSeen) (o s : OutputSeen) → (r ≡ refusals.WriteFault → ⊥) → turns.IsCut a i j o s r → s.faults ≡ o.faults

abbrev pub TurnsHold : {A : Type 0} → (A → Refusal → Type 0) → (A → Type 0) → Writing A → Type 0
TurnsHold IsCause IsWithin Writing.at_end = Unit {0}
TurnsHold IsCause IsWithin (Writing.as_it_goes whole begun early) = Unit {0}
TurnsHold IsCause IsWithin (Writing.in_turns turns) = AreLawfulTurns IsCause IsWithin turns

-- its texts are read once, its checks fail once, its work is refused as its writing is, and within its limits not at all; a refusal that is
-- fixed is told, unless numbers don't fit, and then nothing is answered
pub record IsLawful (c : Command) : Type 0 where
  pub input : HaveInputOnce c.reads
  pub reading : AreReadOnce c.reading
  pub checks : (texts : List (List ℕ)) (a : c.Value) → c.reading.IsRead texts a → AreCheckedOnce (c.checks a)
  pub work : (texts : List (List ℕ)) (a : c.Value) (r : Refusal) → c.reading.IsRead texts a → c.IsCause a r → IsOfWriting c.writing r
  pub within : (texts : List (List ℕ)) (a : c.Value) (r : Refusal) → c.reading.IsRead texts a → c.IsWithin a → c.IsCause a r → r ≡ refusals.Memory
  pub tests : (texts : List (List ℕ)) (a : c.Value) (r d : Refusal) → c.reading.IsRead texts a → IsFixed r → c.IsCause a r → c.IsCause a d →
      TellsSame r d ⊎ IsOfNumbers d
  pub answers : (texts : List (List ℕ)) (a : c.Value) (r : Refusal) (text : List ℕ) → c.reading.IsRead texts a → IsFixed r → c.IsCause a r → c.IsAnswer a text →
      ⊥
  pub wholes : (texts : List (List ℕ)) (a : c.Value) (r : Refusal) (text : List ℕ) → c.reading.IsRead texts a → IsFixed r → c.IsCause a r →
      IsWholeBy c.writing c.IsAnswer a text → ⊥
  pub turns : TurnsHold c.IsCause c.IsWithin c.writing
  -- a source that is taken in turns isn't loaded before
  pub apart : TakesTurns c.writing → HaveInput c.reads → ⊥

-- ---- kinds

pub tells_itself : (r : Refusal) → TellsSame r r
tells_itself (refusals.Inconsistent set multipliers) = refl
tells_itself (refusals.EmptyRegion multipliers) = tt
tells_itself _ = refl

pub as_told : (r d : Refusal) → (d ≡ r) ⊎ (d ≡ refusals.Memory) → TellsSame r d ⊎ IsOfNumbers d
as_told r d (inl e) = inl (subst (TellsSame r) (sym e) (tells_itself r))
as_told r d (inr m) = inr (subst IsOfNumbers (sym m) tt)

pub no_fixed_memory : (r : Refusal) → r ≡ refusals.Memory → IsFixed r → ⊥
no_fixed_memory r m f = elim (subst IsFixed m f) [ inl x ↦ elim x [ inl y ↦ y | inr y ↦ y ] | inr x ↦ x ]

text_no_test : (e : TextError) → IsOfTest (of_text e) → ⊥
text_no_test (errors.Overflow o) t = t
text_no_test (errors.Exponent o) t = t
text_no_test (errors.Syntax s) t = t
text_no_test (errors.TooWide at) t = t
text_no_test (errors.UnknownName at) t = t
text_no_test (errors.TooManyVariables count) t = t
text_no_test (errors.ZeroPolynomial set index) t = t
text_no_test errors.Memory t = t

text_kind : {A : Type 0} (writing : Writing A) (e : TextError) → IsOfWriting writing (of_text e)
text_kind writing (errors.Overflow o) = tt
text_kind writing (errors.Exponent o) = tt
text_kind writing (errors.Syntax s) = tt
text_kind writing (errors.TooWide at) = tt
text_kind writing (errors.UnknownName at) = tt
text_kind writing (errors.TooManyVariables count) = tt
text_kind writing (errors.ZeroPolynomial set index) = tt
text_kind writing errors.Memory = tt

kind_of_exact : {A : Type 0} (writing : Writing A) (k : RefusalKind) → IsTextKind k ⊎ IsFormKind k → IsKindOfWriting writing k
kind_of_exact writing RefusalKind.text e = tt
kind_of_exact writing RefusalKind.form e = tt
kind_of_exact writing _ e = elim e [ inl x ↦ absurd x | inr x ↦ absurd x ]

exact_kind : {A : Type 0} (writing : Writing A) (r : Refusal) → IsExactRefusal r → IsOfWriting writing r
exact_kind writing r e = kind_of_exact writing (kind_of_refusal r) e

module _ (c : Command) (laws : IsLawful c) (texts : List (List ℕ)) where
  -- ---- a refusal before any work

  told_text : (e d : TextError) (r : Refusal) (s : Refusal) → IsExactRefusal r → c.reading.IsRefused texts e → r ≡ of_text e → c.reading.IsRefused texts d →
      s ≡ of_text d → (s ≡ r) ⊎ (s ≡ refusals.Memory)
  told_text e d r s x h q k p = elim (said d) [
    | inl m ↦ inr (p ∙ ap of_text m)
    | inr n ↦ inl (p ∙ ap of_text (laws.reading.same texts e d h (subst IsExactRefusal q x) k n) ∙ sym q)
  ]

  no_read : {B : Type 0} (a : c.Value) (e : TextError) (r : Refusal) → IsExactRefusal r → c.reading.IsRefused texts e → r ≡ of_text e →
      c.reading.IsRead texts a → B
  no_read a e r x h q read = absurd (laws.reading.apart texts a e read h (exact_said e (subst IsExactRefusal q x)))

  told_form : (a : c.Value) (r d : Refusal) → c.reading.IsRead texts a → FirstFails (c.checks a) r → IsRefusedOn c texts d → (d ≡ r) ⊎ (d ≡ refusals.Memory)
  told_form a r d read f (IsRefusedOn.in_text e h q) = elim (said e) [
    | inl m ↦ inr (q ∙ ap of_text m)
    | inr n ↦ absurd (laws.reading.apart texts a e read h n)
  ]
  told_form a r d read f (IsRefusedOn.behind_text b k (IsUnanswered.in_form g)) =
      inl (first_once (c.checks a) (laws.checks texts a read) r d f (subst (λ z. FirstFails (c.checks z) d) (laws.reading.once texts a b read k) g))
  told_form a r d read f (IsRefusedOn.behind_text b k (IsUnanswered.in_work g w)) =
      absurd (first_apart (c.checks a) (laws.checks texts a read) r (subst (λ z. AllHold (c.checks z)) (laws.reading.once texts a b read k) g) f)
  told_form a r d read f (IsRefusedOn.behind_text b k (IsUnanswered.no_memory m)) = inr m
  told_form a r d read f (IsRefusedOn.no_memory m) = inr m

  pub exact : (r d : Refusal) → IsRefusedAtOnce c texts r → IsRefusedOn c texts d → (d ≡ r) ⊎ (d ≡ refusals.Memory)
  exact r d (IsRefusedAtOnce.in_form a read f) k = told_form a r d read f k
  exact r d (IsRefusedAtOnce.in_text e h q x) (IsRefusedOn.in_text y k p) = told_text e y r d x h q k p
  exact r d (IsRefusedAtOnce.in_text e h q x) (IsRefusedOn.behind_text b k u) = no_read b e r x h q k
  exact r d (IsRefusedAtOnce.in_text e h q x) (IsRefusedOn.no_memory m) = inr m

  -- nothing is read that is of its form
  pub not_formed : (r : Refusal) (a : c.Value) → IsRefusedAtOnce c texts r → c.reading.IsRead texts a → AllHold (c.checks a) → ⊥
  not_formed r a (IsRefusedAtOnce.in_text e h q x) read g = no_read a e r x h q read
  not_formed r a (IsRefusedAtOnce.in_form b k f) read g =
      first_apart (c.checks a) (laws.checks texts a read) r g (subst (λ z. FirstFails (c.checks z) r) (laws.reading.once texts a b read k) f)

  pub no_answer : (r : Refusal) (text : List ℕ) → IsRefusedAtOnce c texts r → IsAnswered c texts text → ⊥
  no_answer r text h a = not_formed r a.value h a.read a.answer.formed

  pub no_whole : (r : Refusal) (text : List ℕ) → IsRefusedAtOnce c texts r → IsWholeFor c texts text → ⊥
  no_whole r text h a = not_formed r a.value h a.read a.formed

  -- ---- a fixed refusal

  -- it is before any work, or of the work on what is read
  record OfWork (r : Refusal) : Type 0 where
    value : c.Value
    read : c.reading.IsRead texts value
    formed : AllHold (c.checks value)
    cause : c.IsCause value r

  fixed : (r : Refusal) → IsFixed r → IsRefusedOn c texts r → IsRefusedAtOnce c texts r ⊎ OfWork r
  fixed r (inl x) (IsRefusedOn.in_text e h q) = inl (IsRefusedAtOnce.in_text e h q x)
  fixed r (inr t) (IsRefusedOn.in_text e h q) = absurd (text_no_test e (subst IsOfTest q t))
  fixed r f (IsRefusedOn.behind_text a read (IsUnanswered.in_form g)) = inl (IsRefusedAtOnce.in_form a read g)
  fixed r f (IsRefusedOn.behind_text a read (IsUnanswered.in_work g w)) = inr (record { value = a; read = read; formed = g; cause = w })
  fixed r f (IsRefusedOn.behind_text a read (IsUnanswered.no_memory m)) = absurd (no_fixed_memory r m f)
  fixed r f (IsRefusedOn.no_memory m) = absurd (no_fixed_memory r m f)

  told_work : (r d : Refusal) → IsFixed r → OfWork r → IsRefusedOn c texts d → TellsSame r d ⊎ IsOfNumbers d
  told_work r d x w (IsRefusedOn.in_text e h q) = elim (said e) [
    | inl m ↦ inr (subst IsOfNumbers (sym (q ∙ ap of_text m)) tt)
    | inr n ↦ absurd (laws.reading.apart texts w.value e w.read h n)
  ]
  told_work r d x w (IsRefusedOn.behind_text b k (IsUnanswered.in_form g)) =
      absurd (first_apart (c.checks w.value) (laws.checks texts w.value w.read) d w.formed
      (subst (λ z. FirstFails (c.checks z) d) (laws.reading.once texts w.value b w.read k) g))
  told_work r d x w (IsRefusedOn.behind_text b k (IsUnanswered.in_work g v)) =
      laws.tests texts w.value r d w.read x w.cause (subst (λ z. c.IsCause z d) (laws.reading.once texts w.value b w.read k) v)
  told_work r d x w (IsRefusedOn.behind_text b k (IsUnanswered.no_memory m)) = inr (subst IsOfNumbers (sym m) tt)
  told_work r d x w (IsRefusedOn.no_memory m) = inr (subst IsOfNumbers (sym m) tt)

  pub tested : (r d : Refusal) → IsFixed r → IsRefusedOn c texts r → IsRefusedOn c texts d → TellsSame r d ⊎ IsOfNumbers d
  tested r d x h k = elim (fixed r x h) [ inl a ↦ as_told r d (exact r d a k) | inr w ↦ told_work r d x w k ]

  pub no_tested_answer : (r : Refusal) (text : List ℕ) → IsFixed r → IsRefusedOn c texts r → IsAnswered c texts text → ⊥
  no_tested_answer r text x h a = elim (fixed r x h) [
    | inl y ↦ no_answer r text y a
    | inr w ↦ laws.answers texts w.value r text w.read x w.cause (subst (λ z. c.IsAnswer z text) (laws.reading.once texts w.value a.value w.read a.read)
        a.answer.is_answer)
  ]

  pub no_tested_whole : (r : Refusal) (text : List ℕ) → IsFixed r → IsRefusedOn c texts r → IsWholeFor c texts text → ⊥
  no_tested_whole r text x h a = elim (fixed r x h) [
    | inl y ↦ no_whole r text y a
    | inr w ↦ laws.wholes texts w.value r text w.read x w.cause (subst (λ z. IsWholeBy c.writing c.IsAnswer z text)
        (laws.reading.once texts w.value a.value w.read a.read) a.is_whole)
  ]

  -- what is read of a fixed refusal, from another value that is read
  pub fixed_here : (r : Refusal) (a : c.Value) → IsFixed r → IsRefusedOn c texts r → c.reading.IsRead texts a → AllHold (c.checks a) → c.IsCause a r
  fixed_here r a x h read g = elim (fixed r x h) [
    | inl y ↦ absurd (not_formed r a y read g)
    | inr w ↦ subst (λ z. c.IsCause z r) (laws.reading.once texts a w.value read w.read) w.cause
  ]

  -- ---- within limits

  reached : (a : c.Value) (d : Refusal) → c.reading.IsRead texts a → AllHold (c.checks a) → c.IsWithin a → IsRefusedOn c texts d → d ≡ refusals.Memory
  reached a d read g w (IsRefusedOn.in_text e h q) = elim (said e) [
    | inl m ↦ q ∙ ap of_text m
    | inr n ↦ absurd (laws.reading.apart texts a e read h n)
  ]
  reached a d read g w (IsRefusedOn.behind_text b k (IsUnanswered.in_form f)) =
      absurd (first_apart (c.checks a) (laws.checks texts a read) d g (subst (λ z. FirstFails (c.checks z) d) (laws.reading.once texts a b read k) f))
  reached a d read g w (IsRefusedOn.behind_text b k (IsUnanswered.in_work f v)) =
      laws.within texts a d read w (subst (λ z. c.IsCause z d) (laws.reading.once texts a b read k) v)
  reached a d read g w (IsRefusedOn.behind_text b k (IsUnanswered.no_memory m)) = m
  reached a d read g w (IsRefusedOn.no_memory m) = m

  pub in_reach : (d : Refusal) → IsInReach c texts → IsRefusedOn c texts d → d ≡ refusals.Memory
  in_reach d w h = reached w.value d w.read w.formed w.within h

  -- ---- kinds

  pub refused_kind : (r : Refusal) → IsRefusedOn c texts r → IsOfWriting c.writing r
  refused_kind r (IsRefusedOn.in_text e h q) = subst (IsOfWriting c.writing) (sym q) (text_kind c.writing e)
  refused_kind r (IsRefusedOn.behind_text a read (IsUnanswered.in_form f)) = exact_kind c.writing r (first_kind (c.checks a) (laws.checks texts a read) r f)
  refused_kind r (IsRefusedOn.behind_text a read (IsUnanswered.in_work g w)) = laws.work texts a r read w
  refused_kind r (IsRefusedOn.behind_text a read (IsUnanswered.no_memory m)) = subst (IsOfWriting c.writing) (sym m) tt
  refused_kind r (IsRefusedOn.no_memory m) = subst (IsOfWriting c.writing) (sym m) tt
