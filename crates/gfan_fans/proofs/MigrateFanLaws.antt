-- What `_migratefan` answers, why it doesn't, and that a source is answered in one way.
-- To cite: migration_answered, migration_refused; migrate_fan_exact, migrate_fan_tested, migration_not_listed. The rest are steps.
use Rattle.std.specs.Prelude.{◌≡◌, ◌⊎◌, ℕ, List, [], ◌∷◌}
use Rattle.std.proofs.Common.{refl, sym, ap, ◌∙◌, subst, inl, inr}
use Rattle.gf_fan_files.specs.declared.error.FanFileError.{FanFileError}
use Rattle.gf_fan_files.specs.declared.error.FanFileError.TheVariants as file_errors
use Rattle.gf_fan_files.specs.FilesFans.{IsFanFileRefusal}
use Rattle.gf_fan_files.specs.Migration.{IsMigratedWhole, IsMigrationRefusal, unread, unwritten, no_memory}
use Rattle.gf_front.specs.declared.refusal.Refusal.{Refusal}
use Rattle.gf_front.specs.declared.refusal.Refusal.TheVariants as refusals
use Rattle.gf_items.specs.Refusals.{IsOfNumbers, IsOfTest, TellsSame, IsOfWork}
use Rattle.gf_frame.specs.Commands.{IsAnswered, IsUnanswered, IsRefusedOn}
use Rattle.gf_frame.proofs.ReadingLaws.{whole_once}
use Rattle.gf_frame.proofs.SoundLaws.{IsExactCommand, IsTestedCommand}
use Rattle.gf_frame.proofs.CommandLaws.{tells_itself}
use Rattle.gfan_common.proofs.CauseLaws.{numbers_untested}
use Rattle.gfan_fans.specs.CommonRefinement.{of_fan_file, IsOfWords, IsRefusedInWords}
use Rattle.gfan_fans.specs.MigrateFan.{IsNoMigration, IsMigrationWithin, migrate_fan_command}
use Rattle.gfan_fans.proofs.FanFileLaws.{words_refused_once, within_memory}
use Rattle.gfan_fans.proofs.CommonRefinementLaws.{fan_unrefused, told_file, file_refused_once, in_words_once, fan_in_words}

-- ---- from a source on

pub migration_answered : (source text : List ℕ) → IsMigratedWhole source text → IsAnswered migrate_fan_command (source ∷ []) text
migration_answered source text t = record {
  value = source;
  read = refl;
  answer = record { formed = (λ r w. fan_in_words source t.migrated.fan r t.migrated.of_source w, tt); is_answer = t };
}

-- what it is refused for
data FileKind (e : FanFileError) : Type 0 where
  of_words : IsOfWords e → FileKind e
  of_memory : e ≡ file_errors.Memory → FileKind e
  of_work : (IsOfWords e → ⊥) → (e ≡ file_errors.Memory → ⊥) → FileKind e

file_kind : (e : FanFileError) → FileKind e
file_kind (file_errors.Syntax s) = FileKind.of_words tt
file_kind (file_errors.TooWide at) = FileKind.of_words tt
file_kind (file_errors.TooManyVariables count) = FileKind.of_words tt
file_kind (file_errors.BadVersion number) = FileKind.of_words tt
file_kind (file_errors.Missing section) = FileKind.of_words tt
file_kind (file_errors.Dimensions left right) = FileKind.of_words tt
file_kind (file_errors.Cone o) = FileKind.of_work (λ w. w) (λ q. cc)
file_kind (file_errors.NotAFan first second) = FileKind.of_work (λ w. w) (λ q. cc)
file_kind (file_errors.BadRay number) = FileKind.of_work (λ w. w) (λ q. cc)
file_kind (file_errors.BadCertificate cone) = FileKind.of_work (λ w. w) (λ q. cc)
file_kind (file_errors.Wide w) = FileKind.of_work (λ w. w) (λ q. cc)
file_kind file_errors.Memory = FileKind.of_memory refl

-- it isn't found in words where another refusal is told
not_in_words : (source : List ℕ) (e : FanFileError) (r : Refusal) → (IsOfWords e → ⊥) → (e ≡ file_errors.Memory → ⊥) → IsMigrationRefusal source e →
    IsRefusedInWords source r → ⊥
not_in_words source e r n m (unread h) w = elim (words_refused_once source w.error e w.of_words w.refused h) [
  | inl s ↦ n (subst IsOfWords (sym s) w.of_words)
  | inr s ↦ m s
]
not_in_words source e r n m (unwritten f w i h q) x = fan_in_words source f r i x
not_in_words source e r n m (no_memory q) w = m q

words_unread : (source : List ℕ) (e : FanFileError) → IsOfWords e → IsMigrationRefusal source e → IsFanFileRefusal source e
words_unread source e w (unread h) = h
words_unread source e w (unwritten f x i h q) = absurd (subst IsOfWords q w)
words_unread source e w (no_memory q) = absurd (subst IsOfWords q w)

pub migration_refused : (source : List ℕ) (e : FanFileError) → IsMigrationRefusal source e → IsRefusedOn migrate_fan_command (source ∷ []) (of_fan_file e)
migration_refused source e h = by (file_kind e)
  where
    by : FileKind e → IsRefusedOn migrate_fan_command (source ∷ []) (of_fan_file e)
    by (FileKind.of_words w) =
        IsRefusedOn.behind_text source refl (IsUnanswered.in_form (inl (record { error = e; of_words = w; refused = words_unread source e w h; is = refl })))
    by (FileKind.of_memory q) = IsRefusedOn.no_memory (ap of_fan_file q)
    by (FileKind.of_work n m) = IsRefusedOn.behind_text source refl (IsUnanswered.in_work (
      λ r w. not_in_words source e r n m h w,
      tt,
    ) (record { error = e; of_work = n; refused = h; is = refl }))

-- ---- a source is answered in one way

file_work : (e : FanFileError) → (IsOfWords e → ⊥) → IsOfWork (of_fan_file e)
file_work (file_errors.Cone o) n = tt
file_work (file_errors.NotAFan first second) n = tt
file_work (file_errors.BadRay number) n = tt
file_work (file_errors.BadCertificate cone) n = tt
file_work (file_errors.Wide w) n = tt
file_work file_errors.Memory n = tt
file_work (file_errors.Syntax s) n = absurd (n tt)
file_work (file_errors.TooWide at) n = absurd (n tt)
file_work (file_errors.TooManyVariables count) n = absurd (n tt)
file_work (file_errors.BadVersion number) n = absurd (n tt)
file_work (file_errors.Missing section) n = absurd (n tt)
file_work (file_errors.Dimensions left right) n = absurd (n tt)

migration_within : (source : List ℕ) (r : Refusal) (e : FanFileError) → IsMigrationWithin source → IsMigrationRefusal source e → r ≡ of_fan_file e →
    r ≡ refusals.Memory
migration_within source r e w (unread h) q = q ∙ ap of_fan_file (within_memory source e w.reading h)
migration_within source r e w (unwritten f x i h p) q = absurd (w.writing f i x h)
migration_within source r e w (no_memory p) q = q ∙ ap of_fan_file p

pub migrate_fan_exact : IsExactCommand migrate_fan_command
migrate_fan_exact = record {
  reading = whole_once;
  checks = λ texts source read. (in_words_once source, tt);
  work = λ source r h. subst IsOfWork (sym h.is) (file_work h.error h.of_work);
  within = λ source r w h. migration_within source r h.error w h.refused h.is;
}

-- a test that fails isn't one of numbers
test_told : (r : Refusal) → IsOfTest r → IsOfNumbers r → ⊥
test_told r t n = numbers_untested r n t

migration_told : (source : List ℕ) (r d : Refusal) (e x : FanFileError) → IsOfTest r → IsMigrationRefusal source e → r ≡ of_fan_file e →
    IsMigrationRefusal source x → d ≡ of_fan_file x → (d ≡ r) ⊎ IsOfNumbers d
migration_told source r d e x t h q (unwritten f w i k s) p = inr (subst IsOfNumbers (sym (p ∙ ap of_fan_file s)) tt)
migration_told source r d e x t h q (no_memory s) p = inr (subst IsOfNumbers (sym (p ∙ ap of_fan_file s)) tt)
migration_told source r d e x t (unwritten f w i h s) q k p = absurd (subst IsOfTest (q ∙ ap of_fan_file s) t)
migration_told source r d e x t (no_memory s) q k p = absurd (subst IsOfTest (q ∙ ap of_fan_file s) t)
migration_told source r d e x t (unread h) q (unread k) p = file_refused_once source r d e x (test_told r t) h q k p

migration_refutes : (source text : List ℕ) (r : Refusal) (e : FanFileError) → IsOfTest r → IsMigrationRefusal source e → r ≡ of_fan_file e →
    IsMigratedWhole source text → ⊥
migration_refutes source text r e t (unread h) q a = fan_unrefused source a.migrated.fan e (told_file r e (test_told r t) q) a.migrated.of_source h
migration_refutes source text r e t (unwritten f w i h s) q a = subst IsOfTest (q ∙ ap of_fan_file s) t
migration_refutes source text r e t (no_memory s) q a = subst IsOfTest (q ∙ ap of_fan_file s) t

pub migrate_fan_tested : IsTestedCommand migrate_fan_command
migrate_fan_tested = record {
  tests = λ texts source r d read t h k. elim (migration_told source r d h.error k.error t h.refused h.is k.refused k.is) [
    | inl e ↦ inl (subst (TellsSame r) (sym e) (tells_itself r))
    | inr n ↦ inr n
  ];
  answers = λ texts source r text read t h a. migration_refutes source text r h.error t h.refused h.is a;
  wholes = λ texts source r text read t h a. migration_refutes source text r h.error t h.refused h.is a;
}

file_not_listed : (e : FanFileError) (most : ℕ) → refusals.ListLimit most ≡ of_fan_file e → ⊥
file_not_listed (file_errors.Syntax s) most q = cc
file_not_listed (file_errors.TooWide at) most q = cc
file_not_listed (file_errors.TooManyVariables count) most q = cc
file_not_listed (file_errors.Cone o) most q = cc
file_not_listed (file_errors.NotAFan first second) most q = cc
file_not_listed (file_errors.Missing section) most q = cc
file_not_listed (file_errors.BadRay number) most q = cc
file_not_listed (file_errors.Dimensions left right) most q = cc
file_not_listed (file_errors.BadVersion number) most q = cc
file_not_listed (file_errors.BadCertificate cone) most q = cc
file_not_listed (file_errors.Wide w) most q = cc
file_not_listed file_errors.Memory most q = cc

pub migration_not_listed : (source : List ℕ) (most : ℕ) → IsNoMigration source (refusals.ListLimit most) → ⊥
migration_not_listed source most h = file_not_listed h.error most h.is
