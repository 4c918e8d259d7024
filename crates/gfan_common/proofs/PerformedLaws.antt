-- What a command does with its texts, from what its parts promise for what is read of them.
-- To cite: performed_on, stopped_on; without_vector, of_unnamed; on_err, on_ok, ok_with, err_with. The rest are steps.
use Rattle.std.specs.Prelude.{◌≡◌, ◌⊎◌, ℕ, false, List, Option, Some, None, IfSome, ℤ, Result, Ok, Err, IfErr, OnOk, MatchResult}
use Rattle.std.specs.Io.KnownBytes.{Appends, Keeps}
use Rattle.std.proofs.Common.{refl, sym, subst, inl, inr}
use Rattle.gf_text.specs.declared.written.Written.{Written}
use Rattle.gf_front.specs.declared.refusal.Refusal.{Refusal}
use Rattle.gf_front.specs.declared.refusal.Refusal.TheVariants as refusals
use Rattle.gf_items.specs.Items.{IsTextOf}
use Rattle.gf_items.specs.Sources.{ring_set_vector}
use Rattle.gf_items.specs.Checks.{AllHold}
use Rattle.gf_frame.specs.Seen.{output_seen}
use Rattle.gf_frame.specs.Commands.{Command, IsUnanswered, IsBegunFor, IsRefusedOn, IsRefusedAtStart}
use Rattle.gf_frame.specs.Runs.{TakesTurns, IsDoneOn, IsStoppedOn}
use Rattle.gfan_common.specs.declared.refused.Refused.{Refused}
use Rattle.gfan_common.specs.Refused.{IsUnnamed, IsNamedBy, IsRingOf, IsOfSource}
use Rattle.gfan_common.specs.Performed.{IsPerformedFor, IsBegunAs, IsLeftFor, IsStoppedFor}

-- ---- results

pub on_err : {T E : Type 0} (r : Result T E) (P Q : E → Type 0) → ((e : E) → P e → Q e) → IfErr r P → IfErr r Q
on_err (Ok x) P Q f h = tt
on_err (Err e) P Q f h = f e h

pub on_ok : {T E : Type 0} (r : Result T E) (P Q : Type 0) → (P → Q) → OnOk r P → OnOk r Q
on_ok (Ok x) P Q f h = f h
on_ok (Err e) P Q f h = tt

-- with another fact of the same result
pub ok_with : {T E : Type 0} (r : Result T E) (P Q A : Type 0) (B : E → Type 0) → (P → A → Q) → OnOk r P → MatchResult r (λ x. A) B → OnOk r Q
ok_with (Ok x) P Q A B f h m = f h m
ok_with (Err e) P Q A B f h m = tt

pub err_with : {T E : Type 0} (r : Result T E) (P Q B : E → Type 0) (A : Type 0) → ((e : E) → P e → B e → Q e) → IfErr r P → MatchResult r (λ x. A) B →
    IfErr r Q
err_with (Ok x) P Q B A f h m = tt
err_with (Err e) P Q B A f h m = f e h m

-- ---- a command

abbrev IsFault : Refusal → Type 0
IsFault refusals.WriteFault = Unit {0}
IsFault _ = ⊥

module _ (c : Command) (texts : List (List ℕ)) (a : c.Value) (read : c.reading.IsRead texts a) (formed : AllHold (c.checks a)) (held holds : Option (List ℕ))
    (n m : ℕ) where
  pub performed_on : (TakesTurns c.writing → ⊥) → IsPerformedFor c a held holds → m ≡ n → IsDoneOn c texts (output_seen held n) (output_seen holds m)
  performed_on alone p calm = record {
    text = p.0;
    answered = record { value = a; read = read; answer = record { formed = formed; is_answer = p.1 } };
    gained = p.2;
    calm = calm;
    alone = alone;
  }

  refused_on : (r : Refusal) → c.IsCause a r ⊎ (r ≡ refusals.Memory) → IsRefusedOn c texts r
  refused_on r (inl w) = IsRefusedOn.behind_text a read (IsUnanswered.in_work formed w)
  refused_on r (inr e) = IsRefusedOn.no_memory e

  begun_on : (r : Refusal) → IsBegunAs c a held holds r → (text : List ℕ) × IsBegunFor c texts text r × Appends held holds text
  begun_on r b = (b.0, record { value = a; read = read; formed = formed; begun = b.1 }, b.2)

  left_on : (r : Refusal) → IsLeftFor c a held holds r →
      (IsRefusedAtStart c texts r × Keeps held holds) ⊎ ((text : List ℕ) × IsBegunFor c texts text r × Appends held holds text)
  left_on r (inl (w, b)) = inr (begun_on r b)
  left_on r (inr (inl (w, e), k)) = inl (IsRefusedAtStart.in_work a read formed e, k)
  left_on r (inr (inr m, k)) = inl (IsRefusedAtStart.no_memory m, k)

  left_refused : (r : Refusal) → IsLeftFor c a held holds r → IsRefusedOn c texts r
  left_refused r (inl (w, b)) = refused_on r w
  left_refused r (inr (inl (w, e), k)) = refused_on r (inl w)
  left_refused r (inr (inr m, k)) = refused_on r (inr m)

  stopped_as : (r : Refusal) → IsStoppedFor c a held holds n m r → ((IsFault r → ⊥) → m ≡ n) → IsStoppedOn c texts (output_seen held n) (output_seen holds m) r
  stopped_as refusals.WriteFault s calm = IsStoppedOn.in_writing s.1.0 (record { value = a; read = read; formed = formed; is_whole = s.1.1 }) refl s.0 s.1.2
  stopped_as (refusals.ListLimit most) s calm = IsStoppedOn.in_work (refused_on (refusals.ListLimit most) (inl s.0)) (begun_on (refusals.ListLimit most) s.1)
      (calm (λ f. f))
  stopped_as r s calm = IsStoppedOn.in_work (left_refused r s) (left_on r s) (calm (λ f. f))

  pub stopped_on : (r : Refusal) → IsStoppedFor c a held holds n m r → ((r ≡ refusals.WriteFault → ⊥) → m ≡ n) →
      IsStoppedOn c texts (output_seen held n) (output_seen holds m) r
  stopped_on r s calm = stopped_as r s (λ f. calm (λ e. f (subst IsFault (sym e) tt)))

-- ---- `_bases`

-- no vector is read
pub without_vector : (source : List ℕ) (ring : List (List ℕ)) (set : List Written) (vector : Option (List ℤ)) →
    IsTextOf (ring_set_vector false) source (ring, (set, vector)) → IsTextOf (ring_set_vector false) source (ring, (set, None))
without_vector source ring set None r = r
without_vector source ring set (Some v) r = absurd r.read.two.two

-- ---- lines without a ring

pub of_unnamed : (source : List ℕ) (e : Refused) → IsUnnamed e → IsOfSource source e
of_unnamed source e u = record {
  named = subst (λ ring. IsNamedBy ring e.refusal) (sym u.ring) u.named;
  ring = subst (λ ring. IfSome ring (IsRingOf source)) (sym u.ring) tt;
}
