-- Items of a single token: a dimension, and the name of a new variable.
-- Laws: proofs/SingleTextLaws.antt.
use Rattle.std.specs.Prelude.{◌≡◌, ℕ, true, false, List, [], ◌∷◌}
use Rattle.gf_text.specs.declared.error.Cause.{Cause}
use Rattle.gf_text.specs.declared.error.Cause.TheVariants.{Ended, Unexpected, RepeatedName, ZeroDenominator, TooWide, UnknownName}
use Rattle.gf_text.specs.RingText.{is_name, has}
use Rattle.gf_text.specs.SetText.{IsNumberText}
use Rattle.gf_text.specs.VectorText.{most_entry}

-- a dimension: a number up to 2^63 - 1
abbrev pub IsDimensionText : List (List ℕ) → ℕ → Type 0
IsDimensionText ts n = (t : List ℕ) × (ts ≡ t ∷ []) × IsNumberText t n most_entry

-- a name that isn't one of these
abbrev pub IsNewNameText : List (List ℕ) → List (List ℕ) → List ℕ → Type 0
IsNewNameText names ts n = (ts ≡ n ∷ []) × (is_name n ≡ true) × (has names n ≡ false)

-- the kind of the fault at the token t: a name that is one of these is repeated, anything else is unexpected
abbrev pub IsNewNameKind : List (List ℕ) → List (List ℕ) → List ℕ → Cause → Type 0
IsNewNameKind names ts t Ended = ⊥
IsNewNameKind names ts t Unexpected = is_name t ≡ false
IsNewNameKind names ts t RepeatedName = (is_name t ≡ true) × (has names t ≡ true)
IsNewNameKind names ts t ZeroDenominator = ⊥
IsNewNameKind names ts t TooWide = ⊥
IsNewNameKind names ts t UnknownName = ⊥
