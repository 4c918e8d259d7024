-- A command whose texts are read once, whose work is refused as work is, and whose tests fail once, is lawful.
-- To cite: IsExactCommand, IsTestedCommand, untested, work_apart, writing_kind, sound_lawful. The rest are steps.
use Rattle.std.specs.Prelude.{◌≡◌, ◌⊎◌, ℕ, List}
use Rattle.std.proofs.Common.{refl, subst, inl, inr}
use Rattle.gf_front.specs.declared.refusal.Refusal.{Refusal}
use Rattle.gf_front.specs.declared.refusal.Refusal.TheVariants as refusals
use Rattle.gf_front.specs.Kinds.{RefusalKind, kind_of_refusal, IsTextKind, IsFormKind, IsWorkKind}
use Rattle.gf_items.specs.Refusals.{IsExactRefusal, IsOfNumbers, IsOfTest, TellsSame, IsOfWork}
use Rattle.gf_items.proofs.CheckLaws.{AreCheckedOnce}
use Rattle.gf_frame.specs.Loading.{HaveInputOnce}
use Rattle.gf_frame.specs.Readings.{AreReadOnce}
use Rattle.gf_frame.specs.Commands.{Writing, Command, IsWholeBy, GoesAlong, IsKindOfWriting, IsOfWriting, IsFixed}
use Rattle.gf_frame.specs.Runs.{TakesTurns}
use Rattle.gf_frame.proofs.CommandLaws.{TurnsHold, IsLawful}

-- the texts of a command are read once, its checks fail once, its work is refused as work is, and within its limits not at all
pub record IsExactCommand (c : Command) : Type 0 where
  pub reading : AreReadOnce c.reading
  pub checks : (texts : List (List ℕ)) (a : c.Value) → c.reading.IsRead texts a → AreCheckedOnce (c.checks a)
  pub work : (a : c.Value) (r : Refusal) → c.IsCause a r → IsOfWork r
  pub within : (a : c.Value) (r : Refusal) → c.IsWithin a → c.IsCause a r → r ≡ refusals.Memory

-- a test that takes work fails in one way, unless the numbers of the work don't fit; and then nothing is answered, and there is no
-- whole text
pub record IsTestedCommand (c : Command) : Type 0 where
  pub tests : (texts : List (List ℕ)) (a : c.Value) (r d : Refusal) → c.reading.IsRead texts a → IsOfTest r → c.IsCause a r → c.IsCause a d →
      TellsSame r d ⊎ IsOfNumbers d
  pub answers : (texts : List (List ℕ)) (a : c.Value) (r : Refusal) (text : List ℕ) → c.reading.IsRead texts a → IsOfTest r → c.IsCause a r →
      c.IsAnswer a text → ⊥
  pub wholes : (texts : List (List ℕ)) (a : c.Value) (r : Refusal) (text : List ℕ) → c.reading.IsRead texts a → IsOfTest r → c.IsCause a r →
      IsWholeBy c.writing c.IsAnswer a text → ⊥

-- a command whose work has no such test
pub untested : (c : Command) → ((a : c.Value) (r : Refusal) → IsOfTest r → c.IsCause a r → ⊥) → IsTestedCommand c
untested c never = record {
  tests = λ texts a r d read t h k. absurd (never a r t h);
  answers = λ texts a r text read t h w. never a r t h;
  wholes = λ texts a r text read t h w. never a r t h;
}

-- a refusal is of one kind
kinds_apart : (k : RefusalKind) → IsWorkKind k → IsTextKind k ⊎ IsFormKind k → ⊥
kinds_apart RefusalKind.text w e = w
kinds_apart RefusalKind.form w e = w
kinds_apart _ w e = elim e [ inl x ↦ x | inr x ↦ x ]

pub work_apart : (r : Refusal) → IsOfWork r → IsExactRefusal r → ⊥
work_apart r w e = kinds_apart (kind_of_refusal r) w e

-- only the limit of a list is of this kind
abbrev IsLimitKind : RefusalKind → Type 0
IsLimitKind RefusalKind.limit = Unit {0}
IsLimitKind _ = ⊥

limit_of : (r : Refusal) → IsLimitKind (kind_of_refusal r) → (most : ℕ) × (r ≡ refusals.ListLimit most)
limit_of (refusals.ListLimit most) e = (most, refl)
limit_of _ e = absurd e

kind_of_work : {A : Type 0} (writing : Writing A) (k : RefusalKind) → IsWorkKind k → (IsLimitKind k → GoesAlong writing) → IsKindOfWriting writing k
kind_of_work writing RefusalKind.words w n = absurd w
kind_of_work writing RefusalKind.outside w n = absurd w
kind_of_work writing RefusalKind.limit w n = n tt
kind_of_work writing _ w n = tt

-- a refusal of the work; of a list at its limit only where it is written as it goes
pub writing_kind : {A : Type 0} (writing : Writing A) (r : Refusal) → IsOfWork r → ((most : ℕ) → r ≡ refusals.ListLimit most → GoesAlong writing) →
    IsOfWriting writing r
writing_kind writing r w n = kind_of_work writing (kind_of_refusal r) w (λ e. let l = limit_of r e in n l.0 l.1)

-- one that takes no turns owes none
no_turns : {A : Type 0} (IsCause : A → Refusal → Type 0) (IsWithin : A → Type 0) (writing : Writing A) → (TakesTurns writing → ⊥) →
    TurnsHold IsCause IsWithin writing
no_turns IsCause IsWithin Writing.at_end n = tt
no_turns IsCause IsWithin (Writing.as_it_goes whole begun early) n = tt
no_turns IsCause IsWithin (Writing.in_turns turns) n = absurd (n tt)

module _ (c : Command) (exact : IsExactCommand c) (tested : IsTestedCommand c) where
  fixed_test : (a : c.Value) (r : Refusal) → IsFixed r → c.IsCause a r → IsOfTest r
  fixed_test a r (inl e) w = absurd (work_apart r (exact.work a r w) e)
  fixed_test a r (inr t) w = t

  -- it doesn't read the input twice, takes no turns, and comes to the limit of a list only where it writes as it goes
  pub sound_lawful : HaveInputOnce c.reads → (TakesTurns c.writing → ⊥) → ((a : c.Value) (most : ℕ) → c.IsCause a (refusals.ListLimit most) →
      GoesAlong c.writing) → IsLawful c
  sound_lawful once apart listed = record {
    input = once;
    reading = exact.reading;
    checks = exact.checks;
    work = λ texts a r h w. writing_kind c.writing r (exact.work a r w) (λ most e. listed a most (subst (λ z. c.IsCause a z) e w));
    within = λ texts a r h w k. exact.within a r w k;
    tests = λ texts a r d h f w k. tested.tests texts a r d h (fixed_test a r f w) w k;
    answers = λ texts a r text h f w k. tested.answers texts a r text h (fixed_test a r f w) w k;
    wholes = λ texts a r text h f w k. tested.wholes texts a r text h (fixed_test a r f w) w k;
    turns = no_turns c.IsCause c.IsWithin c.writing apart;
    apart = λ t. absurd (apart t);
  }
