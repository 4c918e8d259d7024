-- Of which kind a fault is, by what a machine takes in each of its states.
-- To cite: refused_by, halts, NoNumbers, Numbers, NoWords, Words, Reason, IsGate, gate_kind, gate_number_kind; one. The rest are steps.
use Rattle.std.proofs.Common.{◌≡◌, ◌<◌, ◌≤◌, ℕ, true, List, [], ◌∷◌, Option, Some, None, refl, ap, ◌⊎◌, inl, inr, arith}
use Rattle.std.proofs.lemmas.Bool.{cases_lt}
use Rattle.gf_text.specs.declared.error.Cause.{Cause}
use Rattle.gf_text.specs.declared.error.Cause.TheVariants.{Ended, Unexpected, RepeatedName, ZeroDenominator, TooWide, UnknownName}
use Rattle.gf_text.specs.Machine.{Move, go, done, halt, after}
use Rattle.gf_text.specs.Tokens.{is_number, decimal_value}
use Rattle.gf_text.specs.SetText.{variable, is_word}
use Rattle.gf_text.specs.Kinds.{MayFollow, NumberMayFollow, NameMayFollow, IsNumberKind, IsTokenKind}
use Rattle.gf_text.proofs.MachineLaws.{IsMachineOf, IsTaken, taken_follows, never}

-- why a move refuses its token
abbrev pub refused_by : {S A : Type 0} → Move S A → Option Cause
refused_by (go s) = None
refused_by (done a) = None
refused_by (halt cause) = Some cause

-- the number 1
abbrev pub one : List ℕ
one = 49 ∷ []

-- ---- what a state takes, where `refuses` says of each token why it is refused

-- no number is taken
abbrev pub NoNumbers : (List ℕ → Option Cause) → Type 0
NoNumbers refuses = (n : List ℕ) → is_number n ≡ true → refuses n ≡ Some Unexpected

-- numbers are taken up to a limit
pub record Numbers (refuses : List ℕ → Option Cause) : Type 0 where
  pub limit : ℕ
  pub takes : refuses one ≡ None
  pub wide : (n : List ℕ) → is_number n ≡ true → limit < decimal_value n → refuses n ≡ Some TooWide
  pub small : (n : List ℕ) → is_number n ≡ true → refuses n ≡ Some TooWide → limit < decimal_value n
  pub expected : (n : List ℕ) → is_number n ≡ true → refuses n ≡ Some Unexpected → ⊥

-- no letter is taken
abbrev pub NoWords : (List ℕ → Option Cause) → Type 0
NoWords refuses = (t : List ℕ) → is_word t ≡ true → refuses t ≡ Some Unexpected

-- names of the ring are taken
pub record Words (ring : List (List ℕ)) (refuses : List ℕ → Option Cause) : Type 0 where
  pub name : List ℕ
  pub number : ℕ
  pub is : variable ring name ≡ Some number
  pub takes : refuses name ≡ None
  pub expected : (t : List ℕ) → is_word t ≡ true → refuses t ≡ Some Unexpected → ⊥

-- what a cause says of the token
abbrev pub Reason : List (List ℕ) → (List ℕ → Option Cause) → List ℕ → Cause → Type 0
Reason ring refuses t Ended = ⊥
Reason ring refuses t Unexpected = Unit {0}
Reason ring refuses t RepeatedName = ⊥
Reason ring refuses t ZeroDenominator = Numbers refuses × (is_number t ≡ true) × (decimal_value t ≡ 0)
Reason ring refuses t TooWide = Numbers refuses × (is_number t ≡ true)
Reason ring refuses t UnknownName = Words ring refuses × (is_word t ≡ true)

pub record IsGate (ring : List (List ℕ)) (refuses : List ℕ → Option Cause) : Type 0 where
  pub numbers : NoNumbers refuses ⊎ Numbers refuses
  pub words : NoWords refuses ⊎ Words ring refuses
  pub reason : (t : List ℕ) (cause : Cause) → refuses t ≡ Some cause → Reason ring refuses t cause

-- numbers alone are told apart
abbrev pub IsNumberCause : Cause → Type 0
IsNumberCause Ended = ⊥
IsNumberCause Unexpected = Unit {0}
IsNumberCause RepeatedName = ⊥
IsNumberCause ZeroDenominator = ⊥
IsNumberCause TooWide = Unit {0}
IsNumberCause UnknownName = ⊥

-- ---- the kind of a fault

pub halts : {S A : Type 0} (m : Move S A) (cause : Cause) → refused_by m ≡ Some cause → m ≡ halt cause
halts (go s) cause e = cc
halts (done a) cause e = cc
halts (halt other) cause e = let same : other ≡ cause = cc in ap (λ c. halt c) same

takes : {S A : Type 0} (m : Move S A) → refused_by m ≡ None → IsTaken m
takes (go s) e = tt
takes (done a) e = tt
takes (halt cause) e = cc

module _ {S A : Type 0} {step : S → List ℕ → Move S A} {start : S} {grammar : List (List ℕ) → A → Type 0} (is : IsMachineOf step start grammar) where
  -- why a state refuses each token
  abbrev gate : S → List ℕ → Option Cause
  gate s t = refused_by (step s t)

  module _ (ts : List (List ℕ)) (s : S) (reached : after step start ts ≡ go s) where
    may : (t : List ℕ) → gate s t ≡ None → MayFollow grammar ts t
    may t e = taken_follows is ts s t reached (takes (step s t) e)

    may_not : (t : List ℕ) (cause : Cause) → gate s t ≡ Some cause → MayFollow grammar ts t → ⊥
    may_not t cause e = never is ts s t cause reached (halts (step s t) cause e)

    number_may : Numbers (gate s) → NumberMayFollow grammar ts
    number_may n = (one, refl, may one n.takes)

    -- a number that may stand is within the limit
    within : (n : Numbers (gate s)) (t : List ℕ) → is_number t ≡ true → MayFollow grammar ts t → decimal_value t ≤ n.limit
    within n t digits follows = elim (cases_lt n.limit (decimal_value t)) [
      | inl h ↦ absurd (may_not t TooWide (n.wide t digits h) follows)
      | inr h ↦ omega arith
    ]

    no_number : (t : List ℕ) → NoNumbers (gate s) ⊎ Numbers (gate s) → gate s t ≡ Some Unexpected → is_number t ≡ true → NumberMayFollow grammar ts → ⊥
    no_number t (inl none) e digits f = may_not f.0 Unexpected (none f.0 f.1) f.2
    no_number t (inr n) e digits f = n.expected t digits e

    no_word : (ring : List (List ℕ)) → ((t : List ℕ) (v : ℕ) → variable ring t ≡ Some v → is_word t ≡ true) → (t : List ℕ) →
        NoWords (gate s) ⊎ Words ring (gate s) → gate s t ≡ Some Unexpected → is_word t ≡ true → NameMayFollow ring grammar ts → ⊥
    no_word ring named t (inl none) e word f = may_not f.0 Unexpected (none f.0 (named f.0 f.1 f.2)) f.3
    no_word ring named t (inr w) e word f = w.expected t word e

    too_wide : (n : Numbers (gate s)) (t : List ℕ) → is_number t ≡ true → gate s t ≡ Some TooWide → IsTokenKind [] grammar ts t TooWide
    too_wide n t digits e = (
      digits,
      number_may n,
      λ m numeral follows. (let small = within n m numeral follows in let above = n.small t digits e in omega arith),
    )

    kind_by : (ring : List (List ℕ)) → ((t : List ℕ) (v : ℕ) → variable ring t ≡ Some v → is_word t ≡ true) → IsGate ring (gate s) →
        (t : List ℕ) (cause : Cause) → gate s t ≡ Some cause → Reason ring (gate s) t cause → IsTokenKind ring grammar ts t cause
    kind_by ring named g t Ended e r = r
    kind_by ring named g t Unexpected e r = (no_number t g.numbers e, no_word ring named t g.words e)
    kind_by ring named g t RepeatedName e r = r
    kind_by ring named g t ZeroDenominator e r = (r.1, r.2, number_may r.0)
    kind_by ring named g t TooWide e r = too_wide r.0 t r.1 e
    kind_by ring named g t UnknownName e r = (r.1, (r.0.name, r.0.number, r.0.is, may r.0.name r.0.takes))

  -- each name of the ring begins with a letter, and each state is such a gate: so the kinds are these
  pub gate_kind : (ring : List (List ℕ)) → ((t : List ℕ) (v : ℕ) → variable ring t ≡ Some v → is_word t ≡ true) → ((s : S) → IsGate ring (gate s))
      → (ts : List (List ℕ)) (s : S) (t : List ℕ) (cause : Cause) → after step start ts ≡ go s → step s t ≡ halt cause → IsTokenKind ring grammar ts t cause
  gate_kind ring named gates ts s t cause reached e =
      let refuses : gate s t ≡ Some cause = ap (λ m. refused_by m) e in
      kind_by ts s reached ring named (gates s) t cause refuses ((gates s).reason t cause refuses)

  number_kind : (ts : List (List ℕ)) (t : List ℕ) (cause : Cause) → IsNumberCause cause → IsTokenKind [] grammar ts t cause → IsNumberKind grammar ts t cause
  number_kind ts t Ended n k = n
  number_kind ts t Unexpected n k = k.0
  number_kind ts t RepeatedName n k = n
  number_kind ts t ZeroDenominator n k = n
  number_kind ts t TooWide n k = k
  number_kind ts t UnknownName n k = n

  -- where numbers alone are told apart
  pub gate_number_kind : ((s : S) → IsGate [] (gate s)) → ((s : S) (t : List ℕ) (cause : Cause) → step s t ≡ halt cause → IsNumberCause cause)
      → (ts : List (List ℕ)) (s : S) (t : List ℕ) (cause : Cause) → after step start ts ≡ go s → step s t ≡ halt cause → IsNumberKind grammar ts t cause
  gate_number_kind gates causes ts s t cause reached e =
      number_kind ts t cause (causes s t cause e) (gate_kind [] (λ u v none. cc) gates ts s t cause reached e)
