-- Of which kind a fault of a set's text is, and why no set is read.
-- To cite: no_set_same, set_gate, set_kinds, set_cause. The rest are steps.
use Rattle.std.proofs.Common.{◌≡◌, ℕ, Bool, true, false, Option, List, length, refl, ap, ◌⊎◌, inl, inr}
use Rattle.gf_text.specs.declared.error.Cause.{Cause}
use Rattle.gf_text.specs.declared.error.Cause.TheVariants.{Ended, Unexpected, RepeatedName, ZeroDenominator, TooWide, UnknownName}
use Rattle.gf_text.specs.declared.error.TextError.{TextError}
use Rattle.gf_text.specs.declared.error.TextError.TheVariants as errors
use Rattle.gf_text.specs.declared.set_reader.SetPlace.{SetPlace}
use Rattle.gf_text.specs.declared.set_reader.SetPlace.TheVariants as at
use Rattle.gf_text.specs.declared.set_reader.Part.{Part}
use Rattle.gf_text.specs.Machine.{go, halt, after}
use Rattle.gf_text.specs.Tokens.{Position, lexemes, ring_more}
use Rattle.gf_text.specs.RingText.{IsRing}
use Rattle.gf_text.specs.SetText.{IsSetText, SetState, token_step, set_step, empty, set_at}
use Rattle.gf_text.specs.Kinds.{IsTokenKind}
use Rattle.gf_text.specs.Given.{IsRefusedAs, Fails}
use Rattle.gf_text.specs.Sets.{HasNoSet, IsSetCause}
use Rattle.gf_text.proofs.MachineLaws.{no_text}
use Rattle.gf_text.proofs.FaultsLaws.{token_kind_once, no_text_once}
use Rattle.gf_text.proofs.KindsLaws.{refused_by, halts, NoNumbers, Numbers, NoWords, Words, Reason as IsReason, IsGate, gate_kind}
use Rattle.gf_text.proofs.SetTokensLaws.{named_word}
use Rattle.gf_text.proofs.SetStopsLaws.{takes_number, takes_name, limit, Reason, reason, one_goes, name_goes, number_stops, number_wide, number_taken}
use Rattle.gf_text.proofs.SetStopsLaws.{word_stops, word_taken}
use Rattle.gf_text.proofs.SetMachineLaws.{set_machine, first_name}

module _ (ring : List (List ℕ)) (is_ring : IsRing ring) where
  module _ (place : SetPlace) (p : Part) where
    -- why a token is refused here
    abbrev gate : List ℕ → Option Cause
    gate t = refused_by (token_step ring place p t)

    numbers : takes_number place ≡ true → Numbers gate
    numbers takes = record {
      limit = limit place;
      takes = ap (λ m. refused_by m) (one_goes ring place takes p).1;
      wide = λ n digits above. ap (λ m. refused_by m) (number_wide ring place takes p n digits above);
      small = λ n digits e. (reason ring place p n TooWide (halts (token_step ring place p n) TooWide e)).2;
      expected = λ n digits e. number_taken ring place takes p n digits (halts (token_step ring place p n) Unexpected e);
    }

    words : takes_name place ≡ true → Words ring gate
    words takes =
        let n = first_name ring is_ring in
        record {
          name = n.0;
          number = n.1;
          is = n.2;
          takes = ap (λ m. refused_by m) (name_goes ring is_ring place takes p n.0 n.1 n.2).1;
          expected = λ t word e. word_taken ring place takes p t word (halts (token_step ring place p t) Unexpected e);
        }

    some_numbers : (b : Bool) → takes_number place ≡ b → NoNumbers gate ⊎ Numbers gate
    some_numbers true is = inr (numbers is)
    some_numbers false is = inl (λ n digits. ap (λ m. refused_by m) (number_stops ring is_ring place is p n digits))

    some_words : (b : Bool) → takes_name place ≡ b → NoWords gate ⊎ Words ring gate
    some_words true is = inr (words is)
    some_words false is = inl (λ t word. ap (λ m. refused_by m) (word_stops ring place is p t word))

    is_reason : (t : List ℕ) (cause : Cause) → Reason place t cause → IsReason ring gate t cause
    is_reason t Ended r = r
    is_reason t Unexpected r = r
    is_reason t RepeatedName r = r
    is_reason t ZeroDenominator r = (numbers r.0, r.1, r.2)
    is_reason t TooWide r = (numbers r.0, r.1)
    is_reason t UnknownName r = (words r.0, r.1)

  -- in each state numbers and letters are taken as the kinds of faults say
  pub set_gate : (s : SetState) → IsGate ring (λ t. refused_by (set_step ring s t))
  set_gate s = record {
    numbers = some_numbers s.0 s.1 (takes_number s.0) refl;
    words = some_words s.0 s.1 (takes_name s.0) refl;
    reason = λ t cause e. is_reason s.0 s.1 t cause (reason ring s.0 s.1 t cause (halts (set_step ring s t) cause e));
  }

  pub set_kinds : (ts : List (List ℕ)) (s : SetState) (t : List ℕ) (cause : Cause) → after (set_step ring) (at.Brace, empty) ts ≡ go s →
      set_step ring s t ≡ halt cause → IsTokenKind ring (IsSetText ring) ts t cause
  set_kinds = gate_kind (set_machine ring is_ring) ring (named_word ring is_ring) set_gate

-- where none is read the refusal is one
pub no_set_same : (ring : List (List ℕ)) (old : Position) (e d : TextError) → HasNoSet ring old e → HasNoSet ring old d → d ≡ e
no_set_same ring old e d h k = no_text_once (IsSetText ring) (IsTokenKind ring (IsSetText ring)) (token_kind_once (IsSetText ring) ring)
    (lexemes (ring_more ring) old.source old.at) (length old.source) d e k h

-- why nothing is read is a cause of the set
no_set : (ring : List (List ℕ)) → IsRing ring → (source : List ℕ) (from : ℕ) (e : TextError) → IsRefusedAs e (set_at ring source from) →
    HasNoSet ring (record { source = source; at = from }) e
no_set ring is source from e r = no_text (set_machine ring is) (IsTokenKind ring (IsSetText ring)) (set_kinds ring is) (length source)
    (lexemes (ring_more ring) source from) e r

pub set_cause : (ring : List (List ℕ)) → IsRing ring → (source : List ℕ) (from : ℕ) (e : TextError) → Fails e (set_at ring source from) →
    IsSetCause ring (record { source = source; at = from }) e
set_cause ring is source from (errors.Overflow o) h = absurd h
set_cause ring is source from (errors.Exponent o) h = absurd h
set_cause ring is source from (errors.Syntax s) h = no_set ring is source from (errors.Syntax s) h
set_cause ring is source from (errors.TooWide place) h = no_set ring is source from (errors.TooWide place) h
set_cause ring is source from (errors.UnknownName place) h = no_set ring is source from (errors.UnknownName place) h
set_cause ring is source from (errors.TooManyVariables count) h = h
set_cause ring is source from (errors.ZeroPolynomial set index) h = h
set_cause ring is source from errors.Memory h = tt
