-- Of which kind a fault at a token is, said by a grammar alone: by what may stand in the token's place.
-- Laws: proofs/KindsLaws.antt.
use Rattle.std.specs.Prelude.{◌≡◌, ℕ, ◌<◌, true, List, [], ◌∷◌, ◌++◌, Some}
use Rattle.gf_text.specs.declared.error.Cause.{Cause}
use Rattle.gf_text.specs.declared.error.Cause.TheVariants.{Ended, Unexpected, RepeatedName, ZeroDenominator, TooWide, UnknownName}
use Rattle.gf_text.specs.Machine.{GoesOnToText}
use Rattle.gf_text.specs.Tokens.{is_number, decimal_value}
use Rattle.gf_text.specs.SetText.{variable, is_word}

-- these tokens, and behind them t, go on to a text of the grammar
abbrev pub MayFollow : {A : Type 0} → (List (List ℕ) → A → Type 0) → List (List ℕ) → List ℕ → Type 0
MayFollow grammar ts t = GoesOnToText grammar (ts ++ t ∷ [])

-- some number may stand behind these tokens
abbrev pub NumberMayFollow : {A : Type 0} → (List (List ℕ) → A → Type 0) → List (List ℕ) → Type 0
NumberMayFollow grammar ts = (n : List ℕ) × (is_number n ≡ true) × MayFollow grammar ts n

-- some name of the ring may stand behind these tokens
abbrev pub NameMayFollow : {A : Type 0} → List (List ℕ) → (List (List ℕ) → A → Type 0) → List (List ℕ) → Type 0
NameMayFollow ring grammar ts = (n : List ℕ) × (v : ℕ) × (variable ring n ≡ Some v) × MayFollow grammar ts n

-- the number t is greater than each that may stand behind these tokens
abbrev pub IsPastAllNumbers : {A : Type 0} → (List (List ℕ) → A → Type 0) → List (List ℕ) → List ℕ → Type 0
IsPastAllNumbers grammar ts t = (n : List ℕ) → is_number n ≡ true → MayFollow grammar ts n → decimal_value n < decimal_value t

-- Where numbers alone are told apart: a number that can't stand where another one can is too wide; anything else is
-- unexpected.
abbrev pub IsNumberKind : {A : Type 0} → (List (List ℕ) → A → Type 0) → List (List ℕ) → List ℕ → Cause → Type 0
IsNumberKind grammar ts t Ended = ⊥
IsNumberKind grammar ts t Unexpected = is_number t ≡ true → NumberMayFollow grammar ts → ⊥
IsNumberKind grammar ts t RepeatedName = ⊥
IsNumberKind grammar ts t ZeroDenominator = ⊥
IsNumberKind grammar ts t TooWide = (is_number t ≡ true) × NumberMayFollow grammar ts × IsPastAllNumbers grammar ts t
IsNumberKind grammar ts t UnknownName = ⊥

-- Where the names of a ring stand: a number that can't stand where another one can is a zero denominator or too wide; a
-- letter where a name of the ring can stand, and none does, is an unknown name; anything else is unexpected.
abbrev pub IsTokenKind : {A : Type 0} → List (List ℕ) → (List (List ℕ) → A → Type 0) → List (List ℕ) → List ℕ → Cause → Type 0
IsTokenKind ring grammar ts t Ended = ⊥
IsTokenKind ring grammar ts t Unexpected = (is_number t ≡ true → NumberMayFollow grammar ts → ⊥) × (is_word t ≡ true → NameMayFollow ring grammar ts → ⊥)
IsTokenKind ring grammar ts t RepeatedName = ⊥
IsTokenKind ring grammar ts t ZeroDenominator = (is_number t ≡ true) × (decimal_value t ≡ 0) × NumberMayFollow grammar ts
IsTokenKind ring grammar ts t TooWide = (is_number t ≡ true) × NumberMayFollow grammar ts × IsPastAllNumbers grammar ts t
IsTokenKind ring grammar ts t UnknownName = (is_word t ≡ true) × NameMayFollow ring grammar ts
