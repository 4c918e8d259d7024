-- Of which kind a fault of a ring's text is, and why no ring is read.
-- To cite: no_ring_same, ring_kind_once, is_unknown, ring_refused. The rest are steps.
use Rattle.std.proofs.Common.{◌≡◌, ℕ, Bool, true, false, ◌||◌, Err, List, [], ◌∷◌, ◌++◌, length, bytes_eq, refl, sym, ap, subst, ◌∙◌, ◌⊎◌, inl, inr}
use Rattle.std.proofs.Common.{if◌then◌else◌}
use Rattle.gf_text.specs.declared.error.Cause.{Cause}
use Rattle.gf_text.specs.declared.error.Cause.TheVariants.{Ended, Unexpected, RepeatedName, ZeroDenominator, TooWide, UnknownName}
use Rattle.gf_text.specs.declared.error.TextError.{TextError}
use Rattle.gf_text.specs.declared.error.TextError.TheVariants as errors
use Rattle.gf_text.specs.declared.ring_reader.RingPlace.TheVariants as at
use Rattle.gf_text.specs.Given.{Fails, IsRefusedAs}
use Rattle.gf_text.specs.Refusing.{refusal_at}
use Rattle.gf_text.specs.Machine.{Move, go, done, halt, after, followed, Fault}
use Rattle.gf_text.specs.RingText.{IsRingText, is_name, has, letter_q, RingState, ring_step, ring_at}
use Rattle.gf_text.specs.Marks.{bracket, comma, bracket_end}
use Rattle.gf_text.specs.RingKinds.{listed, NewNamesMayFollow, IsRingKind}
use Rattle.gf_text.specs.Rings.{HasNoRing, IsRingCause}
use Rattle.gf_text.specs.Tokens.{Position, lexemes, word_more}
use Rattle.gf_text.proofs.MachineLaws.{after-go, after-none, after-++, no_text, caused, goes_on, never}
use Rattle.gf_text.proofs.FaultsLaws.{IsOneKind, no_text_once}
use Rattle.gf_text.proofs.RingTextLaws.{Names, goes, stops, ends, is_letter_q, is_bracket, is_variable, is_comma, long_name, long_is_name, long_is_new}
use Rattle.gf_text.proofs.RingTextLaws.{long_stops, IsRingHalt, ring_halts, ring_machine}

-- ---- the names that were read are among the tokens behind Q and [

peel : (s v : RingState) (t : List ℕ) (ts : Names) → after ring_step s (t ∷ ts) ≡ goes v →
    (u : RingState) × (ring_step s t ≡ goes u) × (after ring_step u ts ≡ goes v)
unfolding after
peel s v t ts e = by (ring_step s t) ts refl e
  where
    by : (m : Move RingState Names) (rest : Names) → ring_step s t ≡ m → followed m rest (λ u. after ring_step u rest) ≡ goes v →
        (u : RingState) × (ring_step s t ≡ goes u) × (after ring_step u rest ≡ goes v)
    by (go u) rest is e = (u, is, e)
    by (done a) [] is e = cc
    by (done a) (x ∷ xs) is e = cc
    by (halt cause) rest is e = cc

kept : (s u : RingState) (t : List ℕ) → ring_step s t ≡ goes u → (u.1 ≡ s.1) ⊎ (u.1 ≡ s.1 ++ t ∷ [])
kept (at.Letter, before) u t e = inl (ap (λ (x : RingState). x.1) (is_letter_q before t (bytes_eq t letter_q) refl u e).1)
kept (at.Bracket, before) u t e = inl (ap (λ (x : RingState). x.1) (is_bracket before t (bytes_eq t bracket) refl u e).1)
kept (at.Variable, before) u t e = inr (ap (λ (x : RingState). x.1) (is_variable before t (is_name t) (has before t) refl refl u e).2)
kept (at.Behind, before) u t e = inl (ap (λ (x : RingState). x.1) (is_comma before t (bytes_eq t comma) (bytes_eq t bracket_end) refl u e).1)

has_last : (before : Names) (t n : List ℕ) → has (before ++ t ∷ []) n ≡ true → (has before n ≡ true) ⊎ (bytes_eq t n ≡ true)
has_last [] t n h = by (bytes_eq t n) refl h
  where
    by : (v : Bool) → bytes_eq t n ≡ v → (v || false) ≡ true → (false ≡ true) ⊎ (bytes_eq t n ≡ true)
    by true is h = inr is
    by false is h = inl h
has_last (m ∷ ms) t n h = by (has_last ms t n) (bytes_eq m n) h
  where
    by : (has (ms ++ t ∷ []) n ≡ true → (has ms n ≡ true) ⊎ (bytes_eq t n ≡ true)) → (v : Bool) → (v || has (ms ++ t ∷ []) n) ≡ true →
        ((v || has ms n) ≡ true) ⊎ (bytes_eq t n ≡ true)
    by later true h = inl refl
    by later false h = later h

has_more : (t : List ℕ) (ts : Names) (n : List ℕ) → has ts n ≡ true → has (t ∷ ts) n ≡ true
has_more t ts n h = by (bytes_eq t n)
  where
    by : (v : Bool) → (v || has ts n) ≡ true
    by true = refl
    by false = h

has_front : (t : List ℕ) (ts : Names) (n : List ℕ) → bytes_eq t n ≡ true → has (t ∷ ts) n ≡ true
has_front t ts n h = ap (λ v. v || has ts n) h

-- a name that was read was there before, or is among the tokens
among : (ts : Names) (s v : RingState) (n : List ℕ) → after ring_step s ts ≡ goes v → has v.1 n ≡ true → (has s.1 n ≡ true) ⊎ (has ts n ≡ true)
among [] s v n e h =
    let on : goes s ≡ goes v = sym (after-none ring_step s) ∙ e in
    let same : s ≡ v = cc in
    inl (subst (λ (x : RingState). has x.1 n ≡ true) (sym same) h)
among (t ∷ ts) s v n e h =
    let p = peel s v t ts e in
    elim (among ts p.0 v n p.2 h) [
      | inr there ↦ inr (has_more t ts n there)
      | inl here ↦ elim (kept s p.0 t p.1) [
        | inl same ↦ inl (subst (λ (l : Names). has l n ≡ true) same here)
        | inr more ↦ elim (has_last s.1 t n (subst (λ (l : Names). has l n ≡ true) more here)) [
          | inl before ↦ inl before
          | inr is ↦ inr (has_front t ts n is)
        ]
      ]
    ]

-- from state to state with no token
same_place : (s v : RingState) → goes s ≡ goes v → s.0 ≡ v.0
same_place s v e = let same : s ≡ v = cc in ap (λ (x : RingState). x.0) same

-- the names that were read are listed
are_listed : (ts names : Names) (n : List ℕ) → after ring_step (at.Letter, []) ts ≡ goes (at.Variable, names) → has names n ≡ true → has (listed ts) n ≡ true
are_listed [] names n e h =
    let place = same_place (at.Letter, []) (at.Variable, names) (sym (after-none ring_step (at.Letter, [])) ∙ e) in
    cc
are_listed (q ∷ []) names n e h =
    let p = peel (at.Letter, []) (at.Variable, names) q [] e in
    let is = (is_letter_q [] q (bytes_eq q letter_q) refl p.0 p.1).1 in
    let place = same_place (at.Bracket, []) (at.Variable, names) (sym (after-none ring_step (at.Bracket, [])) ∙ ap (λ u. after ring_step u []) (sym is) ∙
    p.2) in
    cc
are_listed (q ∷ b ∷ ts) names n e h =
    let p = peel (at.Letter, []) (at.Variable, names) q (b ∷ ts) e in
    let is = (is_letter_q [] q (bytes_eq q letter_q) refl p.0 p.1).1 in
    let r = peel (at.Bracket, []) (at.Variable, names) b ts (ap (λ u. after ring_step u (b ∷ ts)) (sym is) ∙ p.2) in
    let also = (is_bracket [] b (bytes_eq b bracket) refl r.0 r.1).1 in
    elim (among ts (at.Variable, []) (at.Variable, names) n (ap (λ u. after ring_step u ts) (sym also) ∙ r.2) h) [
      | inl none ↦ cc
      | inr there ↦ there
    ]

-- ---- the kind

-- behind these tokens the machine is in this state
abbrev Reaches : Names → RingState → Type 0
Reaches ts s = after ring_step (at.Letter, []) ts ≡ goes s

-- a name that isn't listed is new
is_new : (ts names : Names) (n : List ℕ) → Reaches ts (at.Variable, names) → has (listed ts) n ≡ false → has names n ≡ false
is_new ts names n reached other = by (has names n) (are_listed ts names n reached)
  where
    by : (v : Bool) → (v ≡ true → has (listed ts) n ≡ true) → v ≡ false
    by false h = refl
    by true h = let there = h refl in cc

new_names : (ts names : Names) → Reaches ts (at.Variable, names) → NewNamesMayFollow ts
new_names ts names reached = λ n named other.
    let new = is_new ts names n reached other in
    let on : ring_step (at.Variable, names) n ≡ goes (at.Behind, names ++ n ∷ []) = rw (named, new) refl in
    goes_on ring_machine (ts ++ n ∷ []) (at.Behind, names ++ n ∷ [])
    (after-++ ring_step (at.Letter, []) (at.Variable, names) ts (n ∷ []) reached ∙ after-go ring_step (at.Variable, names) (at.Behind, names ++ n ∷ []) n
    [] on ∙ after-none ring_step (at.Behind, names ++ n ∷ []))

-- where some name can't stand, not each new name may
not_each : (ts : Names) (s : RingState) → Reaches ts s → ring_step s (long_name (listed ts)) ≡ stops Unexpected → NewNamesMayFollow ts → ⊥
not_each ts s reached stop all =
    let n = long_name (listed ts) in
    never ring_machine ts s n Unexpected reached stop (all n (long_is_name (listed ts)) (long_is_new (listed ts)))

unexpected : (ts : Names) (s : RingState) (t : List ℕ) → Reaches ts s → ring_step s t ≡ stops Unexpected → is_name t ≡ true → NewNamesMayFollow ts → ⊥
unexpected ts (at.Letter, names) t reached stop named all = not_each ts (at.Letter, names) reached (long_stops (listed ts) names).letter all
unexpected ts (at.Bracket, names) t reached stop named all = not_each ts (at.Bracket, names) reached (long_stops (listed ts) names).bracket all
unexpected ts (at.Variable, names) t reached stop named all = by (is_name t) (has names t) named stop
  where
    by : (v w : Bool) → v ≡ true → (if v then (if w then stops RepeatedName else goes (at.Behind, names ++ t ∷ [])) else stops Unexpected) ≡ stops Unexpected →
        ⊥
    by true true is e = cc
    by true false is e = cc
    by false w is e = cc
unexpected ts (at.Behind, names) t reached stop named all = not_each ts (at.Behind, names) reached (long_stops (listed ts) names).behind all

repeated : (ts : Names) (s : RingState) (t : List ℕ) → Reaches ts s → ring_step s t ≡ stops RepeatedName → IsRingKind ts t RepeatedName
repeated ts (at.Letter, names) t reached stop = by (bytes_eq t letter_q) stop
  where
    by : (v : Bool) → (if v then goes (at.Bracket, names) else stops Unexpected) ≡ stops RepeatedName → IsRingKind ts t RepeatedName
    by true e = cc
    by false e = cc
repeated ts (at.Bracket, names) t reached stop = by (bytes_eq t bracket) stop
  where
    by : (v : Bool) → (if v then goes (at.Variable, names) else stops Unexpected) ≡ stops RepeatedName → IsRingKind ts t RepeatedName
    by true e = cc
    by false e = cc
repeated ts (at.Variable, names) t reached stop = by (is_name t) (has names t) refl refl stop
  where
    by : (v w : Bool) → is_name t ≡ v → has names t ≡ w → (if v then (if w then stops RepeatedName else goes (at.Behind, names ++ t ∷ [])) else stops
        Unexpected) ≡ stops RepeatedName → IsRingKind ts t RepeatedName
    by true true named there e = (named, are_listed ts names t reached there, new_names ts names reached)
    by true false named there e = cc
    by false w named there e = cc
repeated ts (at.Behind, names) t reached stop = by (bytes_eq t comma) (bytes_eq t bracket_end) stop
  where
    by : (v w : Bool) → (if v then goes (at.Variable, names) else if w then ends names else stops Unexpected) ≡ stops RepeatedName →
        IsRingKind ts t RepeatedName
    by true w e = cc
    by false true e = cc
    by false false e = cc

ring_kinds : (ts : Names) (s : RingState) (t : List ℕ) (cause : Cause) → Reaches ts s → ring_step s t ≡ stops cause → IsRingKind ts t cause
ring_kinds ts s t Ended reached e = ring_halts s t Ended e
ring_kinds ts s t Unexpected reached e = unexpected ts s t reached e
ring_kinds ts s t RepeatedName reached e = repeated ts s t reached e
ring_kinds ts s t ZeroDenominator reached e = ring_halts s t ZeroDenominator e
ring_kinds ts s t TooWide reached e = ring_halts s t TooWide e
ring_kinds ts s t UnknownName reached e = ring_halts s t UnknownName e

-- at a token a fault is of one kind
pub ring_kind_once : IsOneKind IsRingKind
ring_kind_once ts t Unexpected Unexpected h k = refl
ring_kind_once ts t Unexpected RepeatedName h k = absurd (h k.0 k.2)
ring_kind_once ts t RepeatedName Unexpected h k = absurd (k h.0 h.2)
ring_kind_once ts t RepeatedName RepeatedName h k = refl
ring_kind_once ts t Ended d h k = absurd h
ring_kind_once ts t ZeroDenominator d h k = absurd h
ring_kind_once ts t TooWide d h k = absurd h
ring_kind_once ts t UnknownName d h k = absurd h
ring_kind_once ts t c Ended h k = absurd k
ring_kind_once ts t c ZeroDenominator h k = absurd k
ring_kind_once ts t c TooWide h k = absurd k
ring_kind_once ts t c UnknownName h k = absurd k

-- ---- why no ring is read

-- where none is read the refusal is one
pub no_ring_same : (old : Position) (e d : TextError) → HasNoRing old e → HasNoRing old d → d ≡ e
no_ring_same old e d h k = no_text_once IsRingText IsRingKind ring_kind_once (lexemes word_more old.source old.at) (length old.source) d e k h

-- a fault of a ring's text isn't that a number is too wide, nor that a name is unknown
not_refused_as : (source : List ℕ) (from : ℕ) (f : Fault) → ring_at source from ≡ Err f → (f.cause ≡ TooWide → ⊥) × (f.cause ≡ UnknownName → ⊥)
not_refused_as source from f e =
    let P : Cause → Type 0 = λ c. (c ≡ TooWide → ⊥) × (c ≡ UnknownName → ⊥) in
    caused ring_step P (λ h. cc, λ h. cc) (λ s t cause h. (
      λ is. subst IsRingHalt is (ring_halts s t cause h),
      λ is. subst IsRingHalt is (ring_halts s t cause h),
    ))
    (at.Letter, []) (length source) (lexemes word_more source from) f e

is_too_wide : (place : ℕ) (cause : Cause) (at : ℕ) → refusal_at place cause ≡ errors.TooWide at → cause ≡ TooWide
is_too_wide place Ended at e = cc
is_too_wide place Unexpected at e = cc
is_too_wide place RepeatedName at e = cc
is_too_wide place ZeroDenominator at e = cc
is_too_wide place TooWide at e = refl
is_too_wide place UnknownName at e = cc

-- a fault that is refused as an unknown name is one
pub is_unknown : (place : ℕ) (cause : Cause) (at : ℕ) → refusal_at place cause ≡ errors.UnknownName at → cause ≡ UnknownName
is_unknown place Ended at e = cc
is_unknown place Unexpected at e = cc
is_unknown place RepeatedName at e = cc
is_unknown place ZeroDenominator at e = cc
is_unknown place TooWide at e = cc
is_unknown place UnknownName at e = refl

-- no ring's text stands there, and its fault is of this kind
no_ring : (source : List ℕ) (from : ℕ) (error : TextError) → IsRefusedAs error (ring_at source from) → HasNoRing (record { source = source; at = from }) error
no_ring source from error r = no_text ring_machine IsRingKind ring_kinds (length source) (lexemes word_more source from) error r

pub ring_refused : (source : List ℕ) (from : ℕ) (error : TextError) → Fails error (ring_at source from) →
    IsRingCause (record { source = source; at = from }) error
ring_refused source from (errors.Overflow o) h = absurd h
ring_refused source from (errors.Exponent o) h = absurd h
ring_refused source from (errors.Syntax s) h = no_ring source from (errors.Syntax s) h
ring_refused source from (errors.TooWide place) h = absurd ((not_refused_as source from h.0 h.1).0 (is_too_wide h.0.at h.0.cause place h.2))
ring_refused source from (errors.UnknownName place) h = absurd ((not_refused_as source from h.0 h.1).1 (is_unknown h.0.at h.0.cause place h.2))
ring_refused source from (errors.TooManyVariables count) h = absurd h
ring_refused source from (errors.ZeroPolynomial set index) h = absurd h
ring_refused source from errors.Memory h = tt
