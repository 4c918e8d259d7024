-- Of which kind a fault of a vector's text is, and why no vector is read.
-- To cite: no_vector_same, vector_gate, vector_causes, vector_refused. The rest are steps.
use Rattle.std.proofs.Common.{◌≡◌, ℕ, ℤ, Bool, true, false, Option, Err, List, [], length, refl, ap, subst, ◌⊎◌, inl, inr}
use Rattle.gf_text.specs.declared.error.Cause.{Cause}
use Rattle.gf_text.specs.declared.error.Cause.TheVariants.{Ended, Unexpected, RepeatedName, ZeroDenominator, TooWide, UnknownName}
use Rattle.gf_text.specs.declared.error.TextError.{TextError}
use Rattle.gf_text.specs.declared.error.TextError.TheVariants as errors
use Rattle.gf_text.specs.declared.vector_reader.VectorPlace.{VectorPlace}
use Rattle.gf_text.specs.declared.vector_reader.VectorPlace.TheVariants as at
use Rattle.gf_text.specs.Machine.{halt, Fault}
use Rattle.gf_text.specs.Tokens.{Position, lexemes, word_more}
use Rattle.gf_text.specs.VectorText.{most_entry, IsVectorText, VectorState, vector_step, vector_at}
use Rattle.gf_text.specs.Kinds.{IsNumberKind}
use Rattle.gf_text.specs.Given.{IsRefusedAs, Fails}
use Rattle.gf_text.specs.Vectors.{HasNoVector, IsVectorCause}
use Rattle.gf_text.proofs.MachineLaws.{no_text, caused}
use Rattle.gf_text.proofs.RingKindsLaws.{is_unknown}
use Rattle.gf_text.proofs.FaultsLaws.{number_kind_once, no_text_once}
use Rattle.gf_text.proofs.KindsLaws.{refused_by, halts, NoNumbers, Numbers, Reason as IsReason, IsGate, IsNumberCause, gate_number_kind}
use Rattle.gf_text.proofs.VectorTextLaws.{takes_number, Reason, reason, one_goes, number_stops, number_wide, number_taken, word_stops, vector_machine}

module _ (place : VectorPlace) (zs : List ℤ) where
  -- why a token is refused here
  abbrev gate : List ℕ → Option Cause
  gate t = refused_by (vector_step (place, zs) t)

  numbers : takes_number place ≡ true → Numbers gate
  numbers takes = record {
    limit = most_entry;
    takes = ap (λ m. refused_by m) (one_goes place takes zs).1;
    wide = λ n digits above. ap (λ m. refused_by m) (number_wide place takes zs n digits above);
    small = λ n digits e. (reason place zs n TooWide (halts (vector_step (place, zs) n) TooWide e)).2;
    expected = λ n digits e. number_taken place takes zs n digits (halts (vector_step (place, zs) n) Unexpected e);
  }

  some_numbers : (b : Bool) → takes_number place ≡ b → NoNumbers gate ⊎ Numbers gate
  some_numbers true is = inr (numbers is)
  some_numbers false is = inl (λ n digits. ap (λ m. refused_by m) (number_stops place is zs n digits))

  is_reason : (t : List ℕ) (cause : Cause) → Reason place t cause → IsReason [] gate t cause
  is_reason t Ended r = r
  is_reason t Unexpected r = r
  is_reason t RepeatedName r = r
  is_reason t ZeroDenominator r = absurd r
  is_reason t TooWide r = (numbers r.0, r.1)
  is_reason t UnknownName r = absurd r

-- in each state numbers are taken as the kinds of faults say
pub vector_gate : (s : VectorState) → IsGate [] (λ t. refused_by (vector_step s t))
vector_gate s = record {
  numbers = some_numbers s.0 s.1 (takes_number s.0) refl;
  words = inl (λ t word. ap (λ m. refused_by m) (word_stops s.0 s.1 t word));
  reason = λ t cause e. is_reason s.0 s.1 t cause (reason s.0 s.1 t cause (halts (vector_step s t) cause e));
}

number_cause : (place : VectorPlace) (t : List ℕ) (cause : Cause) → Reason place t cause → IsNumberCause cause
number_cause place t Ended r = r
number_cause place t Unexpected r = tt
number_cause place t RepeatedName r = r
number_cause place t ZeroDenominator r = r
number_cause place t TooWide r = tt
number_cause place t UnknownName r = r

pub vector_causes : (s : VectorState) (t : List ℕ) (cause : Cause) → vector_step s t ≡ halt cause → IsNumberCause cause
vector_causes s t cause e = number_cause s.0 t cause (reason s.0 s.1 t cause e)

-- ---- why no vector is read

-- where none is read the refusal is one
pub no_vector_same : (old : Position) (e d : TextError) → HasNoVector old e → HasNoVector old d → d ≡ e
no_vector_same old e d h k = no_text_once IsVectorText (IsNumberKind IsVectorText) (number_kind_once IsVectorText) (lexemes word_more old.source old.at)
    (length old.source) d e k h

-- a fault of a vector's text isn't that a name is unknown
not_unknown : (source : List ℕ) (from : ℕ) (f : Fault) → vector_at source from ≡ Err f → f.cause ≡ UnknownName → ⊥
not_unknown source from f e =
    let P : Cause → Type 0 = λ c. c ≡ UnknownName → ⊥ in
    caused vector_step P (λ h. cc) (λ s t cause h is. subst IsNumberCause is (vector_causes s t cause h))
    (at.Parenthesis, []) (length source) (lexemes word_more source from) f e

-- no vector's text stands there, and its fault is of this kind
no_vector : (source : List ℕ) (from : ℕ) (error : TextError) → IsRefusedAs error (vector_at source from) →
    HasNoVector (record { source = source; at = from }) error
no_vector source from error r = no_text vector_machine (IsNumberKind IsVectorText) (gate_number_kind vector_machine vector_gate vector_causes) (length source)
    (lexemes word_more source from) error r

pub vector_refused : (source : List ℕ) (from : ℕ) (error : TextError) → Fails error (vector_at source from) →
    IsVectorCause (record { source = source; at = from }) error
vector_refused source from (errors.Overflow o) h = absurd h
vector_refused source from (errors.Exponent o) h = absurd h
vector_refused source from (errors.Syntax s) h = no_vector source from (errors.Syntax s) h
vector_refused source from (errors.TooWide place) h = no_vector source from (errors.TooWide place) h
vector_refused source from (errors.UnknownName place) h = absurd (not_unknown source from h.0 h.1 (is_unknown h.0.at h.0.cause place h.2))
vector_refused source from (errors.TooManyVariables count) h = absurd h
vector_refused source from (errors.ZeroPolynomial set index) h = absurd h
vector_refused source from errors.Memory h = tt
