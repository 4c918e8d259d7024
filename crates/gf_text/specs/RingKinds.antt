-- Of which kind a fault of a ring's text is.
-- A name that stood there before, where each new one can stand, is a repeated name; anything else is unexpected.
-- Laws: proofs/RingKindsLaws.antt.
use Rattle.std.specs.Prelude.{◌≡◌, ℕ, true, false, List, drop}
use Rattle.gf_text.specs.declared.error.Cause.{Cause}
use Rattle.gf_text.specs.declared.error.Cause.TheVariants.{Ended, Unexpected, RepeatedName, ZeroDenominator, TooWide, UnknownName}
use Rattle.gf_text.specs.Kinds.{MayFollow}
use Rattle.gf_text.specs.RingText.{is_name, has, IsRingText}

-- the tokens behind the letter Q and the bracket
abbrev pub listed : List (List ℕ) → List (List ℕ)
listed ts = drop 2 ts

-- each name that isn't among those listed may stand behind these tokens
abbrev pub NewNamesMayFollow : List (List ℕ) → Type 0
NewNamesMayFollow ts = (n : List ℕ) → is_name n ≡ true → has (listed ts) n ≡ false → MayFollow IsRingText ts n

-- the kind of the fault at the token t behind these tokens
abbrev pub IsRingKind : List (List ℕ) → List ℕ → Cause → Type 0
IsRingKind ts t Ended = ⊥
IsRingKind ts t Unexpected = is_name t ≡ true → NewNamesMayFollow ts → ⊥
IsRingKind ts t RepeatedName = (is_name t ≡ true) × (has (listed ts) t ≡ true) × NewNamesMayFollow ts
IsRingKind ts t ZeroDenominator = ⊥
IsRingKind ts t TooWide = ⊥
IsRingKind ts t UnknownName = ⊥
